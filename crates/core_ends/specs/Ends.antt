-- No clause of `run` rests on this module: it serves contracts between crates.
--
-- How transactions begin, and what one leaves that ends.
use Rattle.std.specs.Prelude.{◌≡◌, ◌≢◌, ℕ, ◌+◌, ◌≤◌, Bool, false, [], ◌∷◌, Option}
use Rattle.iv_types.specs.Maps.{Map}
use Rattle.iv_types.specs.declared.statement.Mode.{Mode}
use Rattle.iv_types.specs.declared.statement.Mode.TheVariants.{Serial, Snapshot}
use Rattle.lock_manager.specs.Table as table
use Rattle.txn_machine.specs.Acts.{Act}
use Rattle.txn_machine.specs.Store.{Store, Effect, run, schema_of, now}
use Rattle.txn_machine.specs.Ghosts.{the_views}
use Rattle.txn_machine.specs.Log.{Log, Within, reserved, end_bytes, log_all}
use Rattle.txn_machine.specs.May.{IsOpen}
use Rattle.txn_machine.specs.State.{State}
use Rattle.data_room.specs.Reserved.{Where, IsReserved, Moves}
use Rattle.data_room.specs.declared.room.DataRoom.{DataRoom}
use Rattle.core_state.specs.Stands.{Holds, Counts, its_texts}
use Rattle.core_state.specs.declared.state.CoreState.{CoreState}

-- the number in the log of a transaction of a mode, the latest of so many
abbrev pub number_in_log : Mode → ℕ → ℕ
number_in_log Serial begun = begun
number_in_log Snapshot begun = 0

-- an area of so many bytes has room for the end of a transaction of a mode; a snapshot needs none
abbrev pub FitsEnd : Mode → Option ℕ → Store → Log → Type 0
FitsEnd Serial limit s l = Within limit (l.used + reserved s l + end_bytes)
FitsEnd Snapshot limit s l = Unit {0}

-- a transaction is open that keeps and owes nothing
pub record IsEmpty (s : Store) (session : ℕ) : Type 0 where
  pub opened : IsOpen s session
  pub kept_is : (now s session).kept ≡ []
  pub owed_is : (now s session).owed ≡ []

-- it is of this mode, and has appended a record or none, which a snapshot never has
pub record EndsAs (s : Store) (l : Log) (session : ℕ) (mode : Mode) (wrote : Bool) : Type 0 where
  pub empty : IsEmpty s session
  pub mode_is : (now s session).mode ≡ mode
  pub wrote_is : (l.logged session).wrote ≡ wrote
  pub bare : mode ≡ Snapshot → wrote ≡ false

-- The core holds what one effect of a session leaves that ends its transaction, whatever the act; the session waits for nothing, and
-- the others for what they waited for.
pub record Left {M : Type 0} (maps : M → ℕ → Map) (spare : M → ℕ → ℕ) (limit : M → Option ℕ) (s : State) (session : ℕ) (e : Effect) (old new : CoreState M) : Type 0 where
  pub holds : (a : Act) → Holds maps spare limit new (run the_views s.store session (e ∷ [])) (log_all s.store session a (e ∷ []) s.log) (its_texts s)
  pub own : table.waiting_of new.locks session ≡ []
  pub others : (other : ℕ) → other ≢ session → table.waiting_of new.locks other ≡ table.waiting_of old.locks other
  pub counts : Counts maps spare limit new s
  -- what is kept of the data is as before, and is what the machine says once nothing is kept for the session
  pub same_data : new.data_room ≡ old.data_room
  pub reserves : (a : Act) (room : DataRoom) → room.limit ≡ old.data_room.limit → Where old.data_room.limit (Moves old.data_room room session 0)
      → IsReserved room (schema_of (run the_views s.store session (e ∷ []))) (run the_views s.store session (e ∷ [])).open_of (log_all s.store session a (e ∷ []) s.log).logged
  -- what is used and reserved of the log is as before
  pub same_log : new.log_room ≡ old.log_room
  pub appends_one : (a : Act) → (log_all s.store session a (e ∷ []) s.log).next ≤ s.log.next + 1
