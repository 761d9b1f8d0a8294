-- No clause of `run` rests on this module: it serves contracts between crates.
--
-- What a core has beside its store when it is opened.
use Rattle.std.specs.Prelude.{◌≡◌, ℕ, [], Option, None, Some}
use Rattle.iv_meaning.specs.Database.{Database}
use Rattle.txn_machine.specs.Log.{opened_log}
use Rattle.txn_machine.specs.Store.{opened}
use Rattle.txn_machine.specs.Stored.{ViewRows}
use Rattle.lock_manager.specs.Table.{IsNew}
use Rattle.txn_book.specs.Opens.{open_at}
use Rattle.data_past.specs.Ahead.{rows_at, deltas_at}
use Rattle.data_room.specs.Reserved.{share_at}
use Rattle.log_room.specs.Rooms.{IsRoomOf}
use Rattle.core_state.specs.Seats.{new_seat, seat_at}
use Rattle.core_opening.specs.declared.idle.Idle.{Idle}

-- No transaction has begun, and no session was told anything. The log and the data have these limits, and the greatest commit number
-- is this one.
pub record IsIdle (log : Option ℕ) (most number : ℕ) (idle : Idle) : Type 0 where
  pub seats : (session : ℕ) → seat_at idle.seats session ≡ new_seat
  pub locks : IsNew idle.locks
  -- no version is made ahead
  pub rows : (session : ℕ) → rows_at idle.ahead session ≡ []
  pub deltas : (session : ℕ) → deltas_at idle.ahead session ≡ []
  -- nothing is kept of the data
  pub data_limit : idle.data_room.limit ≡ Some most
  pub total : idle.data_room.total ≡ 0
  pub shares : (session : ℕ) → share_at idle.data_room.shares session ≡ 0
  -- the log has an empty block
  pub log_limit : idle.log_room.limit ≡ log
  pub log_room : (db : Database) (view : ViewRows) (next : ℕ) → IsRoomOf idle.log_room (opened db view) (opened_log next)
  pub number_is : idle.book.opened ≡ number
  pub history : idle.book.history ≡ []
  pub entry_bytes : idle.book.entry_bytes ≡ 0
  pub opens : (session : ℕ) → open_at idle.book.opens session ≡ None
