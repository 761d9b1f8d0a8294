-- No clause of `run` rests on this module: it serves contracts between crates.
--
-- The laws of what a step adds, of what an open transaction keeps and was told, and of the rows under its locks.
use Rattle.std.specs.Prelude.{◌≡◌, ◌⊎◌, ℕ, ◌+◌, ◌≤◌, List, [], ◌∷◌, ◌++◌, length, map, Option, if◌then◌else◌, pos, neg_ℤ, Some, drop, ◌-◌}
use Rattle.std.specs.List.{All, Contains}
use Rattle.std.specs.FinMap.{get}
use Rattle.std.specs.Ordering.{eq_by_cmp}
use Rattle.iv_types.specs.declared.statement.Mode.TheVariants.{Serial, Snapshot}
use Rattle.iv_types.specs.Encoding.{IsHuge, FitAll, key_bytes}
use Rattle.table_laws.specs.Place.{Place, place_cmp}
use Rattle.table_laws.specs.Kept.{redo}
use Rattle.iv_meaning.specs.Schema.{Object, Schema, view, ViewTree, numbered, group_kinds}
use Rattle.iv_meaning.specs.Database.{Row}
use Rattle.iv_meaning.specs.View.{read}
use Rattle.iv_meaning.specs.History.{Entry, state_at}
use Rattle.iv_meaning.specs.Escrow.{IsSession, lo, hi}
use Rattle.txn_machine.specs.Deltas.{RowChange}
use Rattle.txn_machine.specs.Keeping.{Pay, increments, changes_of, KeptStep}
use Rattle.txn_machine.specs.Entries.{AgreeAt}
use Rattle.txn_machine.specs.Store.{committed, schema_of, now, changes_by, locks_of}
use Rattle.txn_machine.specs.Counts.{kept_size, size_of_entry}
use Rattle.txn_machine.specs.Ghosts.{MayRead}
use Rattle.txn_machine.specs.State.{State, most_steps}
use Rattle.txn_machine.specs.May.{IsOpen}
use Rattle.txn_machine.specs.Steps.{Did, Step}
use Rattle.txn_machine.specs.Alone.{Fact, Found, WasThere, TookBack, Story, IsTrueIn, without_latest, with_changes}
use Rattle.txn_machine.specs.Laws.{IsReached, IsReachedStory, changes_above}
use Rattle.iv_types.specs.declared.lock.GroupDelta.{GroupDelta}
use Rattle.txn_machine.specs.Stored.{AreStored}

-- ---- the history

-- a step adds one entry at most: that of the next number, which names the step's session
abbrev pub EntryLaw : Type 0
EntryLaw = (s : State) (d : Did) (after : State) → Step s d.session d.act d.said after
    → (after.store.history ≡ s.store.history)
    ⊎ ((e : Entry) × (e.session ≡ d.session) × (e.number ≡ (committed s.store).number + 1) × (after.store.history ≡ s.store.history ++ e ∷ []))

-- there are no more entries than steps, and no more steps than stop an engine
abbrev pub LengthLaw : Type 0
LengthLaw = (s : State) → IsReached s → (length s.store.history ≤ s.steps) × (s.steps ≤ most_steps)

-- ---- what was told

-- the changes that what was told left, the latest first
abbrev pub kept_after : List Fact → List RowChange
kept_after [] = []
kept_after (Found number interval rows kept ∷ told) = kept_after told
kept_after (WasThere place new before kept ∷ told) = record { key = place; before = before; after = new } ∷ kept_after told
kept_after (TookBack kept ∷ told) = without_latest (kept_after told)

-- All that an open serial transaction was told is so in what is committed now, also what was told beside changes that were taken
-- back since, and it keeps what that left. All that a snapshot was told is so at its number, and it keeps nothing.
abbrev pub ToldLaw : Type 0
ToldLaw = (story : Story) → IsReachedStory story → (session : ℕ) → (o : IsOpen story.state.store session)
    → (o.transaction.mode ≡ Serial → All (IsTrueIn (committed story.state.store)) (story.told session) × (kept_after (story.told session) ≡ changes_by story.state.store session))
    × (o.transaction.mode ≡ Snapshot →
    All (IsTrueIn (state_at story.state.store.origin story.state.store.history o.transaction.number)) (story.told session) × (changes_by story.state.store session ≡ []))

-- of kept steps, of which the latest stands first, so many of the oldest
abbrev pub oldest : ℕ → List KeptStep → List KeptStep
oldest many ks = drop (length ks - many) ks

-- Each note that stands is what its interval has in what is committed, with those changes that were kept when it was taken: all of
-- these are kept still.
abbrev pub NotesLaw : Type 0
NotesLaw = (s : State) → IsReached s → (session : ℕ) → (o : IsOpen s.store session) → o.transaction.mode ≡ Serial
    → All (λ n. read (with_changes (changes_of (oldest n.kept o.transaction.kept)) (committed s.store)) n.index n.interval ≡ n.rows) o.transaction.notes

-- ---- rows under locks

-- under a lock by which a session may read a key, an index has the rows that are committed, with the session's own changes
abbrev pub OwnRowsLaw : Type 0
OwnRowsLaw = (s : State) → IsReached s → (session : ℕ) → IsSession session → (number : ℕ) (key : List ℕ) → MayRead (locks_of s.store session) number key
    → AgreeAt (schema_of s.store) number key s.store.rows (redo (changes_by s.store session) (committed s.store).rows)

-- ---- sums on the way

-- the sums on the way of what a transaction paid to a column are in range, whatever the others do
abbrev pub PrefixLaw : Type 0
PrefixLaw = (s : State) → IsReached s → (session : ℕ) → IsSession session → (place : Place) (column : ℕ)
    → IsHuge (lo (increments place column (now s.store session).kept)) × IsHuge (hi (increments place column (now s.store session).kept))

-- ---- deltas

-- one combination of a view of the schema, added or taken away: its group's key, and a number for each sum
pub record IsDelta (objects : Schema) (d : GroupDelta) : Type 0 where
  pub of : ViewTree
  pub view_is : numbered objects d.view ≡ Some (view of)
  pub group : Row
  pub fits : FitAll (group_kinds objects of) group
  pub key : d.group ≡ key_bytes (group_kinds objects of) group
  pub one : (d.count ≡ pos 1) ⊎ (d.count ≡ neg_ℤ (pos 1))
  pub sums : length d.sums ≡ length of.sums
  pub in_range : All IsHuge d.sums

-- all that a transaction owes and paid is made of such deltas
abbrev pub DeltaLaw : Type 0
DeltaLaw = (s : State) → IsReached s → (session : ℕ) → IsSession session
    → All (IsDelta (schema_of s.store)) (now s.store session).owed
    × ((d : GroupDelta) → Contains (now s.store session).kept (Pay d) → IsDelta (schema_of s.store) d)

-- each stored row is one of a view of the schema
abbrev pub StoredRowLaw : Type 0
StoredRowLaw = (s : State) → IsReached s → AreStored (schema_of s.store) s.store.view

-- ---- rows at a number, key by key

-- the row under a key before some changes, of which the latest stands first
abbrev pub row_before : Place → List RowChange → Option Row → Option Row
row_before place [] row = row
row_before place (c ∷ cs) row = row_before place cs (if eq_by_cmp place_cmp place c.key then c.before else row)

-- the row under a key at a number is the committed one with the later changes of that key taken back
abbrev pub RowAtLaw : Type 0
RowAtLaw = (s : State) → IsReached s → (number : ℕ) (place : Place)
    → get (state_at s.store.origin s.store.history number).rows place ≡ row_before place (changes_above number s.store.history) (get (committed s.store).rows place)

-- ---- sizes

-- what is kept and what was entered takes as many bytes after a further definition
abbrev pub SizesLaw : Type 0
SizesLaw = (s : State) → IsReached s → (o : Object)
    → (map (size_of_entry (schema_of s.store ++ o ∷ [])) s.store.history ≡ map (size_of_entry (schema_of s.store)) s.store.history)
    × ((session : ℕ) → IsSession session → map (kept_size (schema_of s.store ++ o ∷ [])) (now s.store session).kept ≡ map (kept_size (schema_of s.store)) (now s.store session).kept)
