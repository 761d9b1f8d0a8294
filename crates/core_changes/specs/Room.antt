-- No clause of `run` rests on this module: it serves contracts between crates.
--
-- Room that is made for a change.
use Rattle.std.specs.Prelude.{◌≡◌, ◌+◌, ◌≤◌, ℕ, List, length}
use Rattle.std.specs.List.{Contains}
use Rattle.iv_types.specs.Maps.{Map}
use Rattle.iv_types.specs.declared.lock.GroupDelta.{GroupDelta}
use Rattle.lock_manager.specs.Table as table
use Rattle.table_store.specs.Readying.{HasPlaces}
use Rattle.table_store.specs.Stored.{OfTable}
use Rattle.txn_book.specs.Books.{OfOpen, open_changes}
use Rattle.txn_book.specs.Txns.{HasRoomFor}
use Rattle.txn_machine.specs.KeptLaws.{IsDelta}
use Rattle.txn_machine.specs.Log.{Log}
use Rattle.txn_machine.specs.Store.{Store, schema_of}
use Rattle.core_state.specs.Stands.{Holds, Texts}
use Rattle.core_state.specs.declared.state.CoreState.{CoreState}
use Rattle.core_effects.specs.Writing.{CanOwe}

-- what a core holds it holds still
abbrev pub Keeps : {M : Type 0} → (M → ℕ → Map) → (M → ℕ → ℕ) → (M → Rattle.std.specs.Prelude.Option ℕ) → CoreState M → CoreState M → Type 0
Keeps maps spare limit old new = (s : Store) (l : Log) (texts : Texts) → Holds maps spare limit old s l texts → Holds maps spare limit new s l texts

-- these are deltas of the views that a core's catalog defines
abbrev pub AreDeltas : Store → List GroupDelta → Type 0
AreDeltas s owed = (d : GroupDelta) → Contains owed d → IsDelta (schema_of s) d

-- A session has room for a change of a table's row that owes these deltas: for so many locks beside those of its pays, for one more
-- entry in each index beside all that go back in, and in its transaction.
pub record HasRoom {M : Type 0} (spare : M → ℕ → ℕ) (core : CoreState M) (session number wants : ℕ) (owed : List GroupDelta) : Type 0 where
  pub locks : wants + length owed ≤ table.room_of core.locks session
  pub places : OfTable core.store.catalog number (HasPlaces core.store.catalog (open_changes core.book.opens + 1) (spare core.store.tables))
  pub step : OfOpen core.book session (HasRoomFor (length owed))
  pub owes : CanOwe core session owed
