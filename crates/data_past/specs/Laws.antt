-- No clause of `run` rests on this module: it serves contracts between crates.
--
-- What keeps that a store has the past of a state of the machine, effect by effect.
use Rattle.std.specs.Prelude.{◌≡◌, ◌≤◌, ◌+◌, ℕ, List, [], ◌∷◌, Option, None}
use Rattle.std.specs.FinMap.{get, empty}
use Rattle.iv_types.specs.declared.lock.GroupDelta.{GroupDelta}
use Rattle.table_laws.specs.Place.{Place}
use Rattle.iv_meaning.specs.Database.{Row, Database}
use Rattle.iv_meaning.specs.Escrow.{IsSession}
use Rattle.txn_machine.specs.Deltas.{RowChange}
use Rattle.txn_machine.specs.Ghosts.{the_views, IsCleanable}
use Rattle.txn_machine.specs.Keeping.{KeptStep, Put, Pay}
use Rattle.txn_machine.specs.Stored.{ViewRows}
use Rattle.txn_machine.specs.Store.{Store, opened, committed, schema_of, now, changes_by, entry_changes, least_snapshot, Effect, Opens, Takes, Notes, Writes, Pays, Ghosts, Undoes, Loses, Ends, Commits, Defines, Cleans, Prunes, does}
use Rattle.txn_machine.specs.State.{State}
use Rattle.txn_machine.specs.Steps.{NoneIsOpen}
use Rattle.txn_machine.specs.Laws.{IsReached}
use Rattle.version_chain.specs.Versions.{above}
use Rattle.version_chain.specs.States.{commits_in}
use Rattle.data_store.specs.Past.{Pendings, RowVersions}
use Rattle.data_store.specs.ViewPast.{DeltaVersions}
use Rattle.data_store.specs.Machine.{bytes_of, changes_on, version_by, delta_by, IsPast}
use Rattle.data_past.specs.Moves.{one_more, one_less, fewer, ChangesAt, pushed_all, pays_of}

-- a store without versions, of which nothing is pending, has that of a database that is opened
abbrev pub OpenedLaw : Type 0
OpenedLaw = (db : Database) (view : ViewRows) → IsPast [] [] empty (opened db view)

-- ---- effects that leave versions and pending rows

-- where they may come: a transaction begins, takes locks, notes a reading, pays or is paid back, is met by a deadlock, or ends without
-- a change; a ghost is made, or removed where it is cleanable; and an object is defined
abbrev pub LeavesPast : Store → ℕ → Effect → Type 0
LeavesPast s session (Opens mode) = IsSession session × (s.open_of session ≡ None)
LeavesPast s session (Takes wants) = IsSession session
LeavesPast s session (Notes note) = IsSession session
LeavesPast s session Pays = IsSession session
LeavesPast s session Undoes = IsSession session × (d : GroupDelta) × (ks : List KeptStep) × ((now s session).kept ≡ Pay d ∷ ks)
LeavesPast s session Loses = IsSession session
LeavesPast s session Ends = IsSession session × ((now s session).kept ≡ [])
LeavesPast s session (Ghosts place columns) = Unit {0}
LeavesPast s session (Cleans place) = IsCleanable s place
LeavesPast s session (Defines object) = NoneIsOpen s
LeavesPast s session _ = ⊥

abbrev pub LeavesLaw : Type 0
LeavesLaw = (s : State) → IsReached s → (rows : RowVersions) (deltas : DeltaVersions) (pending : Pendings) → IsPast rows deltas pending s.store
    → (session : ℕ) (e : Effect) → LeavesPast s.store session e → IsPast rows deltas pending (does the_views s.store session e)

-- ---- the others

-- a change that is put is one more of its key
abbrev pub PutLaw : Type 0
PutLaw = (s : State) → IsReached s → (rows : RowVersions) (deltas : DeltaVersions) (pending : Pendings) → IsPast rows deltas pending s.store
    → (session : ℕ) → IsSession session → (place : Place) (new : Option Row) (after : Pendings) → ChangesAt place (one_more (bytes_of (schema_of s.store) place (get (committed s.store).rows place))) pending after
    → IsPast rows deltas after (does the_views s.store session (Writes place new))

-- and one less where it is taken back
abbrev pub UndoLaw : Type 0
UndoLaw = (s : State) → IsReached s → (rows : RowVersions) (deltas : DeltaVersions) (pending : Pendings) → IsPast rows deltas pending s.store
    → (session : ℕ) → IsSession session → (c : RowChange) (owed : List GroupDelta) (ks : List KeptStep) → (now s.store session).kept ≡ Put c owed ∷ ks → (after : Pendings) → ChangesAt c.key one_less pending after
    → IsPast rows deltas after (does the_views s.store session Undoes)

-- a commit pushes the row before each change and each delta that was paid, with its number, and forgets its changes
abbrev pub CommitLaw : Type 0
CommitLaw = (s : State) → IsReached s → (rows : RowVersions) (deltas : DeltaVersions) (pending : Pendings) → IsPast rows deltas pending s.store
    → (session : ℕ) → IsSession session → (now s.store session).owed ≡ [] → (new_rows : RowVersions) (new_deltas : DeltaVersions) (after : Pendings)
    → new_rows ≡ pushed_all (version_by (schema_of s.store)) (commits_in ((committed s.store).number + 1) (entry_changes (now s.store session).kept)) s.store.mark rows
    → new_deltas ≡ pushed_all (delta_by ((committed s.store).number + 1)) (pays_of (now s.store session).kept) s.store.mark deltas
    → ((place : Place) → get after place ≡ fewer (changes_on place (changes_by s.store session)) (get pending place))
    → IsPast new_rows new_deltas after (does the_views s.store session Commits)

-- the number up to which versions go
abbrev pub least_kept : Store → ℕ
least_kept s = least_snapshot s.open_of 64 (committed s).number

-- a prune drops versions up to the new mark
abbrev pub PruneLaw : Type 0
PruneLaw = (s : State) → IsReached s → (rows : RowVersions) (deltas : DeltaVersions) (pending : Pendings) → IsPast rows deltas pending s.store → (session : ℕ) → s.store.mark ≤ least_kept s.store
    → IsPast (above (least_kept s.store) rows) (above (least_kept s.store) deltas) pending (does the_views s.store session Prunes)
