-- No clause of `run` rests on this module: it serves contracts between crates.
--
-- What follows for a store that has the past of a state of the machine.
use Rattle.std.specs.Prelude.{◌≡◌, ◌≤◌, ◌↔◌, ℕ, true, List, Some}
use Rattle.std.specs.List.{Contains}
use Rattle.iv_types.specs.declared.lock.GroupDelta.{GroupDelta}
use Rattle.iv_types.specs.declared.catalog.TableDef.{TableDef}
use Rattle.iv_types.specs.declared.statement.Mode.TheVariants.{Snapshot}
use Rattle.iv_types.specs.declared.value.Interval.{Interval}
use Rattle.iv_types.specs.Definitions.{Definitions}
use Rattle.iv_types.specs.Maps.{Map}
use Rattle.table_laws.specs.Place.{Place}
use Rattle.iv_meaning.specs.Schema.{numbered}
use Rattle.iv_meaning.specs.Database.{Row}
use Rattle.iv_meaning.specs.History.{state_at}
use Rattle.iv_meaning.specs.Database.{Database}
use Rattle.txn_machine.specs.Deltas.{is_for}
use Rattle.txn_machine.specs.Ghosts.{versions}
use Rattle.txn_machine.specs.Store.{Store, committed, schema_of}
use Rattle.txn_machine.specs.Stored.{ViewRows}
use Rattle.txn_machine.specs.State.{State}
use Rattle.txn_machine.specs.May.{IsOpen, MayPeek}
use Rattle.txn_machine.specs.Steps.{FindsIn, Peeks}
use Rattle.txn_machine.specs.Laws.{IsReached}
use Rattle.table_store.specs.Stored.{table_of}
use Rattle.version_chain.specs.Chains.{is_empty}
use Rattle.ghost_rows.specs.State as views
use Rattle.data_store.specs.Contents.{contents_of}
use Rattle.data_store.specs.Held.{IsHeld}
use Rattle.data_store.specs.Past.{Pendings, RowVersions, WereRows}
use Rattle.data_store.specs.ViewPast.{DeltaVersions}
use Rattle.data_store.specs.Machine.{IsPast}
use Rattle.data_store.specs.Peeking.{WereAll, CanPeek}

-- the database at a commit number
abbrev pub database_at : Store → ℕ → Database
database_at s number = state_at s.origin s.history number

-- at each number from the mark to the greatest, the rows of a table were those of the database at that number
abbrev pub RowsThenLaw : Type 0
RowsThenLaw = (ds : Definitions) (maps : ℕ → Map) (state : views.State) (s : State) → IsReached s → IsHeld ds maps state (contents_of s.store)
    → (rows : RowVersions) (deltas : DeltaVersions) (pending : Pendings) → IsPast rows deltas pending s.store → (t : TableDef) → table_of ds t.number ≡ Some t
    → (number : ℕ) → s.store.mark ≤ number → s.store.origin.number ≤ number → number ≤ (committed s.store).number → WereRows number rows pending maps (database_at s.store number).rows t

-- at the number of an open snapshot it can be read, and what is found by what there was then is what a Peek is answered
abbrev pub PeekedLaw : Type 0
PeekedLaw = (ds : Definitions) (maps : ℕ → Map) (state : views.State) (s : State) → IsReached s → IsHeld ds maps state (contents_of s.store)
    → (rows : RowVersions) (deltas : DeltaVersions) (pending : Pendings) → IsPast rows deltas pending s.store → (session : ℕ) (o : IsOpen s.store session) → o.transaction.mode ≡ Snapshot
    → (past : ViewRows) × WereAll o.transaction.number rows deltas pending ds maps state (contents_of s.store) (database_at s.store o.transaction.number).rows past
    × ((index : ℕ) → MayPeek (numbered (schema_of s.store) index) → CanPeek o.transaction.number rows deltas pending ds maps state index)
    × ((index : ℕ) (interval : Interval) (answered : List Row) → MayPeek (numbered (schema_of s.store) index)
    → FindsIn (database_at s.store o.transaction.number) past (numbered (schema_of s.store) index) index interval answered → Peeks s.store session index interval answered)

-- a view row has no version just where none of the deltas above the mark is for it
abbrev pub NoVersionLaw : Type 0
NoVersionLaw = (s : State) → IsReached s → (rows : RowVersions) (deltas : DeltaVersions) (pending : Pendings) → IsPast rows deltas pending s.store → (place : Place)
    → (is_empty place deltas ≡ true) ↔ ((d : GroupDelta) → Contains (versions s.store) d → is_for place d ≡ true → ⊥)
