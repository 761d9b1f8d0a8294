-- No clause of `run` rests on this module: it serves contracts between crates.
--
-- A Put on its way.
use Rattle.std.specs.Prelude.{◌≡◌, ◌+◌, ◌<◌, ◌≤◌, ◌^◌, ℕ, List, Option}
use Rattle.iv_types.specs.Maps.{Map, IsWithin, used}
use Rattle.iv_types.specs.declared.lock.Change.{Change}
use Rattle.iv_types.specs.declared.lock.GroupDelta.{GroupDelta}
use Rattle.iv_types.specs.declared.lock.Want.{Want}
use Rattle.iv_types.specs.declared.refusal.EngineRefusal.{EngineRefusal}
use Rattle.iv_types.specs.declared.refusal.EngineRefusal.TheVariants.{TxnFull, LogFull, DataFull, HistoryFull}
use Rattle.txn_machine.specs.Acts as act
use Rattle.txn_machine.specs.Counts.{kept_change_size, transaction_size, most_of_transaction, most_of_history}
use Rattle.txn_machine.specs.Log.{Log, Within, Above, reserved}
use Rattle.txn_machine.specs.May.{MayAct}
use Rattle.txn_machine.specs.RowChanges.{row_change}
use Rattle.txn_machine.specs.State.{State}
use Rattle.txn_machine.specs.Steps.{IsFree, FitsLog, FitsData, asked, put_owed, put_need, log_need, data_need, used_data, history_bytes}
use Rattle.txn_machine.specs.Store.{Store, change_at, schema_of, now}
use Rattle.txn_book.specs.Books.{IsOpenAnd, OfOpen, total_bytes}
use Rattle.data_room.specs.Reserved.{Where}
use Rattle.log_room.specs.Rooms.{IsRoomOf}
use Rattle.log_room.specs.declared.room.LogRoom.{LogRoom}
use Rattle.core_state.specs.Stands.{Began}
use Rattle.core_state.specs.declared.limits.TheConstants.{MOST_OF_TRANSACTION, MOST_OF_HISTORY}
use Rattle.core_state.specs.declared.state.CoreState.{CoreState}

-- its step has begun, it may be asked for, this is the change that it makes, and nobody is in the way of its locks
pub record IsFreePut {M : Type 0} (maps : M → ℕ → Map) (spare : M → ℕ → ℕ) (limit : M → Option ℕ) (s : State) (core : CoreState M) (session : ℕ) (change : Change) (wants : List Want) : Type 0 where
  pub began : Began maps spare limit core s session
  pub may : MayAct s.store session (act.Put change.table change.key change.after)
  pub is : row_change change ≡ change_at s.store (change.table, change.key) change.after
  pub wants_are : wants ≡ asked s.store session (act.Put change.table change.key change.after)
  pub free : IsFree s.store session wants

-- and it is within the limits, with these deltas and so many bytes in its transaction and in the history
pub record CanPut {M : Type 0} (maps : M → ℕ → Map) (spare : M → ℕ → ℕ) (limit : M → Option ℕ) (s : State) (core : CoreState M) (session : ℕ) (change : Change) (wants : List Want) (owed : List GroupDelta) (bytes entry_bytes : ℕ) : Type 0 where
  pub puts : IsFreePut maps spare limit s core session change wants
  pub owed_is : owed ≡ put_owed s.store (row_change change)
  pub bytes_are : bytes ≡ put_need s.store (row_change change)
  pub entry_bytes_are : entry_bytes ≡ kept_change_size (schema_of s.store) (row_change change)
  pub room : transaction_size (schema_of s.store) (now s.store session) + bytes ≤ most_of_transaction
  pub log_room : FitsLog s (log_need s.store (row_change change))
  pub data_room : FitsData s (data_need s.store (row_change change))
  pub data_small : Where s.opening.data_limit (used_data s + data_need s.store (row_change change) < 2 ^ 32)
  pub history_room : history_bytes s + entry_bytes ≤ most_of_history

-- so many bytes more are within the limit of the log
abbrev pub LogFits : LogRoom → ℕ → Type 0
LogFits room need = (s : Store) (l : Log) → IsRoomOf room s l → Within room.limit (l.used + reserved s l + need)

-- so many bytes more are not, where so many are used and so many reserved
abbrev pub IsFullOfLog : LogRoom → ℕ → ℕ → ℕ → Type 0
IsFullOfLog room used_bytes reserved_bytes need = (s : Store) (l : Log) → IsRoomOf room s l → (used_bytes ≡ l.used) × (reserved_bytes ≡ reserved s l) × Above room.limit (l.used + reserved s l + need)

-- so many bytes more are within the limit of the data, and all of them are few
abbrev pub DataFits : {M : Type 0} (maps : M → ℕ → Map) → CoreState M → ℕ → Type 0
DataFits maps core need = IsWithin core.data_room.limit (used (maps core.store.tables) + core.data_room.total + need) × Where core.data_room.limit (used (maps core.store.tables) + core.data_room.total + need < 2 ^ 32)

-- why a change is refused that counts so many bytes in its session's transaction, in the log, in the data and in the history
abbrev pub IsFull : {M : Type 0} (maps : M → ℕ → Map) → CoreState M → ℕ → ℕ → ℕ → ℕ → ℕ → EngineRefusal → Type 0
IsFull maps core session bytes log_need data_need entry_bytes (TxnFull kept need) = (need ≡ bytes) × IsOpenAnd core.book session (λ o. (kept ≡ o.txn_bytes) × (kept + need ≤ MOST_OF_TRANSACTION → ⊥))
IsFull maps core session bytes log_need data_need entry_bytes (LogFull used_bytes reserved_bytes need) =
    (need ≡ log_need) × OfOpen core.book session (λ o. o.txn_bytes + bytes ≤ MOST_OF_TRANSACTION) × IsFullOfLog core.log_room used_bytes reserved_bytes need
IsFull maps core session bytes log_need data_need entry_bytes (DataFull all need) =
    (need ≡ data_need) × OfOpen core.book session (λ o. o.txn_bytes + bytes ≤ MOST_OF_TRANSACTION) × LogFits core.log_room log_need × Where core.data_room.limit (all ≡ used (maps core.store.tables) + core.data_room.total) × Above core.data_room.limit (all + need)
IsFull maps core session bytes log_need data_need entry_bytes (HistoryFull kept need) =
    (need ≡ entry_bytes) × OfOpen core.book session (λ o. o.txn_bytes + bytes ≤ MOST_OF_TRANSACTION) × LogFits core.log_room log_need × DataFits maps core data_need × (kept ≡ total_bytes core.book) × (kept + need ≤ MOST_OF_HISTORY → ⊥)
IsFull maps core session bytes log_need data_need entry_bytes _ = ⊥
