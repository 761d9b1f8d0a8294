-- No clause of `run` rests on this module: it serves contracts between crates.
--
-- The laws of the machine, over every list of steps from an opened state.
use Rattle.std.specs.Prelude.{◌≡◌, ◌≢◌, ◌⊎◌, ◌↔◌, ℕ, ℤ, ◌+ℤ◌, List, [], ◌∷◌, ◌++◌, ◌==◌, ◌+◌, ◌≤◌, nat_le, get_or, length, None, pos, Some, IsSome, Ok, if◌then◌else◌}
use Rattle.std.specs.List.{All, Contains, list_any}
use Rattle.std.specs.FinMap.{get, empty}
use Rattle.iv_types.specs.declared.lock.GroupDelta.{GroupDelta}
use Rattle.iv_types.specs.declared.value.Kind.{Kind}
use Rattle.iv_types.specs.declared.value.Value.{Value}
use Rattle.iv_types.specs.Encoding.{IsHuge, FitAll, key_bytes}
use Rattle.table_laws.specs.Place.{Place}
use Rattle.table_laws.specs.Kept.{AreSessions, take_back, take_back_all, redo, redo_all}
use Rattle.iv_types.specs.Syntax.{StatementTree}
use Rattle.iv_meaning.specs.Schema.{Schema, Object, view, ViewTree, numbered, group_kinds}
use Rattle.iv_meaning.specs.Binding.{bind}
use Rattle.iv_meaning.specs.Statement.{Kept, sets, defines, create}
use Rattle.iv_meaning.specs.View.{whole_view, read, share}
use Rattle.iv_meaning.specs.Database.{Row, Rows, Database}
use Rattle.iv_meaning.specs.History.{Entry, state_at}
use Rattle.iv_meaning.specs.Waits.{AreDifferent}
use Rattle.iv_types.specs.declared.value.Interval.{Interval}
use Rattle.iv_types.specs.declared.lock.LockMode.{LockMode}
use Rattle.iv_types.specs.declared.lock.LockMode.TheVariants.{Increment}
use Rattle.iv_types.specs.declared.reply.Reply.{Reply}
use Rattle.iv_types.specs.declared.statement.Mode.TheVariants.{Serial, Snapshot}
use Rattle.txn_machine.specs.Acts as act
use Rattle.txn_machine.specs.Acts.{Act}
use Rattle.txn_machine.specs.Answers as answer
use Rattle.txn_machine.specs.Answers.{Answer}
use Rattle.iv_types.specs.declared.session.Sessions.{Sessions}
use Rattle.iv_types.specs.declared.session.Cycle.{Cycle}
use Rattle.iv_types.specs.declared.refusal.EngineRefusal.TheVariants as refusal
use Rattle.iv_types.specs.Replies.{members}
use Rattle.txn_machine.specs.Alone.{Story, Dialogue, begun_story, Unfolds, with_changes, IsLed, RunsAlone}
use Rattle.txn_machine.specs.May.{IsOpenIn, IsOpen, IsReady, MayPeek, Owes}
use Rattle.iv_meaning.specs.Escrow.{IsSession, over_sessions, paid, inf, sup, value}
use Rattle.txn_machine.specs.Locks.{Meet}
use Rattle.txn_machine.specs.Waiting.{WaitsOn, IsRing}
use Rattle.txn_machine.specs.Deltas.{RowChange, due, place_of}
use Rattle.txn_machine.specs.Keeping.{KeptStep, increments}
use Rattle.txn_machine.specs.Stored.{ViewRows, stored_number, AreStored}
use Rattle.txn_machine.specs.Fresh.{fresh}
use Rattle.txn_machine.specs.Store.{Store, opened, committed, schema_of, now, changes_by, locks_of, deltas_above}
use Rattle.txn_machine.specs.Ghosts.{Holds, MayReadIn, the_views, account_of, versions}
use Rattle.txn_machine.specs.Log.{Opening}
use Rattle.txn_machine.specs.State.{State, opened_state}
use Rattle.txn_machine.specs.Steps.{Did, Run, Step}
use Rattle.txn_machine.specs.ViewLaws.{AreSound, ViewLaws}

-- ---- what the laws stand on

-- what a CREATE statement makes of a sound database is sound
abbrev pub CreatesSound : Type 0
CreatesSound = (db : Database) (statement : StatementTree) (o : Object) → AreSound db.schema db.rows → bind db.schema statement ≡ Ok (create o)
    → AreSound (db.schema ++ o ∷ []) db.rows

-- the machine's views, as they are defined, keep the laws of views
abbrev pub ViewsLaw : Type 0
ViewsLaw = ViewLaws the_views fresh

-- values that fit are told by their keys
abbrev pub KeysTell : Type 0
KeysTell = (kinds : List Kind) (one other : List Value) → FitAll kinds one → FitAll kinds other → key_bytes kinds one ≡ key_bytes kinds other → one ≡ other

-- a column of each view and group is in range
abbrev pub AreInRange : Schema → Rows → Type 0
AreInRange objects rows = (place : Place) (column : ℕ) → IsHuge (fresh objects rows place column)

-- the query of a view is accepted only where its numbers are in range
abbrev pub RangeLaw : Type 0
RangeLaw = (db : Database) (v : ViewTree) → AreSound db.schema db.rows → AreSound (db.schema ++ view v ∷ []) db.rows → IsSome (whole_view db.schema db.rows v)
    → AreInRange db.schema db.rows → AreInRange (db.schema ++ view v ∷ []) db.rows

-- a number of a view by an encoded group is the share of the group in the view's meaning
abbrev pub FreshLaw : Type 0
FreshLaw = (db : Database) → AreSound db.schema db.rows → (n : ℕ) (v : ViewTree) → numbered db.schema n ≡ Some (view v)
    → (g : Row) → FitAll (group_kinds db.schema v) g → (column : ℕ)
    → fresh db.schema db.rows (v.number, key_bytes (group_kinds db.schema v) g) column ≡ get_or (share db.schema db.rows v g) column (pos 0)

-- no view's query is refused where the numbers are in range
abbrev pub ReadableLaw : Type 0
ReadableLaw = (db : Database) → AreSound db.schema db.rows → AreInRange db.schema db.rows → (n : ℕ) (v : ViewTree) → numbered db.schema n ≡ Some (view v)
    → IsSome (whole_view db.schema db.rows v)

-- ---- states

-- a database as it is opened: sound, with its views' rows as they are evaluated afresh
pub record IsOpened (db : Database) (view : ViewRows) : Type 0 where
  pub sound : AreSound db.schema db.rows
  pub rows : (place : Place) (column : ℕ) → stored_number view place column ≡ fresh db.schema db.rows place column
  pub stored : AreStored db.schema view
  pub in_range : AreInRange db.schema db.rows

-- a database that defines nothing is one
abbrev pub EmptyLaw : Type 0
EmptyLaw = (number : ℕ) → IsOpened (record { number = number; schema = []; rows = empty }) empty

-- a state that steps lead to
pub record IsReached (s : State) : Type 0 where
  pub db : Database
  pub view : ViewRows
  pub opening : Opening
  pub was_opened : IsOpened db view
  pub steps : List Did
  pub run : Run (opened_state opening (opened db view)) steps s

-- ---- what is committed

-- the stored rows, with the kept changes of open transactions taken back in any order of the sessions, are what was opened
-- and then committed entry by entry
abbrev pub CommittedLaw : Type 0
CommittedLaw = (s : State) → IsReached s → (sessions : List ℕ) → AreSessions 64 sessions
    → take_back_all (changes_by s.store) sessions s.store.rows ≡ (committed s.store).rows

-- what is committed is sound, and it is with the changes of any sessions
abbrev pub SoundLaw : Type 0
SoundLaw = (s : State) → IsReached s → (chosen : List ℕ) → All IsSession chosen
    → AreSound (schema_of s.store) (redo_all (changes_by s.store) chosen (committed s.store).rows)

-- ---- views

-- a stored number is the committed one, evaluated afresh, and what open transactions paid
abbrev pub StoredLaw : Type 0
StoredLaw = (s : State) → IsReached s → (place : Place) (column : ℕ)
    → stored_number s.store.view place column ≡ value (account_of s.store place column)

-- where no row is stored the group has no combination that is committed, and no pay on it is kept
abbrev pub AbsentLaw : Type 0
AbsentLaw = (s : State) → IsReached s → (place : Place) → get s.store.view place ≡ None
    → ((session : ℕ) → IsSession session → (column : ℕ) → increments place column (now s.store session).kept ≡ [])
    × ((column : ℕ) → fresh (schema_of s.store) (committed s.store).rows place column ≡ pos 0)

-- what a transaction paid and what it owes is what its changes make of the view
abbrev pub ShareLaw : Type 0
ShareLaw = (s : State) → IsReached s → (session : ℕ) → IsSession session → (place : Place) (column : ℕ)
    → fresh (schema_of s.store) (redo (changes_by s.store session) (committed s.store).rows) place column
    ≡ fresh (schema_of s.store) (committed s.store).rows place column
    +ℤ (paid (increments place column (now s.store session).kept) +ℤ due place column (now s.store session).owed)

-- whatever becomes of a column stays in range
abbrev pub BoundsLaw : Type 0
BoundsLaw = (s : State) → IsReached s → (place : Place) (column : ℕ)
    → IsHuge (inf (account_of s.store place column)) × IsHuge (sup (account_of s.store place column))

-- the numbers that are committed are in range, and they are with the changes of a session that owes nothing
abbrev pub InRangeLaw : Type 0
InRangeLaw = (s : State) → IsReached s → AreInRange (schema_of s.store) (committed s.store).rows
    × ((session : ℕ) → IsSession session → (now s.store session).owed ≡ [] → AreInRange (schema_of s.store) (redo (changes_by s.store session) (committed s.store).rows))

-- ---- locks

-- no two sessions hold locks that conflict
abbrev pub LocksLaw : Type 0
LocksLaw = (s : State) → IsReached s → (one other : ℕ) → IsSession one → IsSession other → one ≢ other
    → Meet (locks_of s.store one) (locks_of s.store other) → ⊥

-- recorded waits have no cycle
abbrev pub WaitsLaw : Type 0
WaitsLaw = (s : State) → IsReached s → (first : ℕ) (others : List ℕ) → IsRing (WaitsOn (locks_of s.store) s.waiting) first others → ⊥

-- a ghost that is asked for is stored; a row stays stored while a session holds an Increment lock on it; and where the row of the
-- first owed delta is stored, its pay is not answered by NeedsGhost
abbrev pub GhostedLaw : Type 0
GhostedLaw =
    ((s : State) (d : Did) (after : State) → Step s d.session d.act d.said after → (session : ℕ) → IsSession session
    → (place : Place) → Holds (locks_of s.store session) Increment place.0 place.1 → IsSome (get s.store.view place) → IsSome (get after.store.view place))
    × ((s : State) (session : ℕ) (after : State) → (o : Owes s.store session) → IsSome (get s.store.view (place_of o.first)) → Step s session act.Pay answer.NeedsGhost after → ⊥)
    × ((s : State) (session : ℕ) (after : State) → (o : Owes s.store session) → Step s session act.Ghost answer.Ghosted after → IsSome (get after.store.view (place_of o.first)))

-- ---- readings

-- what a Fetch answers is what the interval has in the committed database with the session's own changes
abbrev pub FetchLaw : Type 0
FetchLaw = (s : State) → IsReached s → (session number : ℕ) (interval : Interval) (mode : LockMode) (rows : List Row) (after : State)
    → Step s session (act.Fetch number interval mode) (answer.Rows rows) after
    → read (with_changes (changes_by s.store session) (committed s.store)) number interval ≡ rows

-- what is read is the same in both
abbrev pub IsSameReading : Database → Database → ℕ → Interval → Type 0
IsSameReading one other number interval = read one number interval ≡ read other number interval

-- a step leaves what another session's open transaction may read by its locks
abbrev pub FrameLaw : Type 0
FrameLaw = (s : State) → IsReached s → (d : Did) (after : State) → Step s d.session d.act d.said after
    → (other : ℕ) → other ≢ d.session → IsOpen s.store other → (number : ℕ) (interval : Interval) → MayReadIn (locks_of s.store other) number interval
    → IsSameReading (committed s.store) (committed after.store) number interval

-- the part of a session: its open transaction, what it waits for, and what it was told
pub record SamePart (s after : State) (session : ℕ) : Type 0 where
  pub open_is : after.store.open_of session ≡ s.store.open_of session
  pub waiting : after.waiting session ≡ s.waiting session
  pub seat : after.seat_of session ≡ s.seat_of session

-- A step leaves the part of every other session and what was opened; what the cleaner did is session 0's part; and where another
-- session's transaction is open, the schema stays.
abbrev pub PartLaw : Type 0
PartLaw = (s : State) (d : Did) (after : State) → Step s d.session d.act d.said after
    → ((other : ℕ) → other ≢ d.session → SamePart s after other) × (after.store.origin ≡ s.store.origin)
    × (d.session ≢ 0 → after.cleaner ≡ s.cleaner)
    × ((other : ℕ) → other ≢ d.session → IsOpen s.store other → schema_of after.store ≡ schema_of s.store)

-- ---- transactions alone

-- a state that steps lead to, with what each open transaction was told
pub record IsReachedStory (story : Story) : Type 0 where
  pub db : Database
  pub view : ViewRows
  pub opening : Opening
  pub was_opened : IsOpened db view
  pub steps : List Did
  pub tells : Unfolds (begun_story (opened_state opening (opened db view))) steps story

-- A serial transaction that is open was told what it would have been told alone on the database that is committed now, and
-- keeps what it would keep. This is so just before its commit, its end, each refusal, and where it never ends.
abbrev pub RepliesLaw : Type 0
RepliesLaw = (story : Story) → IsReachedStory story → (session : ℕ) → (o : IsOpen story.state.store session) → o.transaction.mode ≡ Serial
    → (p q : Dialogue (List Reply)) (cs : List RowChange) → IsLed p (story.told session) q cs
    → RunsAlone (committed story.state.store) p (story.told session) q cs × (cs ≡ changes_by story.state.store session)

-- and a snapshot on the database at its number
abbrev pub SnapshotRepliesLaw : Type 0
SnapshotRepliesLaw = (story : Story) → IsReachedStory story → (session : ℕ) → (o : IsOpen story.state.store session) → o.transaction.mode ≡ Snapshot
    → (p q : Dialogue (List Reply)) (cs : List RowChange) → IsLed p (story.told session) q cs
    → RunsAlone (state_at story.state.store.origin story.state.store.history o.transaction.number) p (story.told session) q cs

-- a commit that keeps changes is the entry of its number: what was committed before it is the state at the number before, and
-- what is committed after it the state at its number
abbrev pub CommitLaw : Type 0
CommitLaw = (s : State) → IsReached s → (session number : ℕ) (after : State) → Step s session act.Commit (answer.Committed number) after
    → changes_by s.store session ≢ []
    → (state_at s.store.origin after.store.history number ≡ committed after.store)
    × ((before : ℕ) → number ≡ before + 1 → state_at s.store.origin after.store.history before ≡ committed s.store)
    × ((committed after.store).rows ≡ redo (changes_by s.store session) (committed s.store).rows)

-- ---- subsets

-- the other sessions' pays
abbrev pub pays_but : List ℕ → State → Place → ℕ → ℕ → ℤ
pays_but chosen s place column session = if list_any (λ c. c == session) chosen then pos 0 else paid (increments place column (now s.store session).kept)

-- if some open transactions that owe nothing committed at once, the numbers afresh would be those stored less what the
-- others paid
abbrev pub AnySubsetLaw : Type 0
AnySubsetLaw = (s : State) → IsReached s → (chosen : List ℕ) → AreDifferent chosen → All IsSession chosen → All (λ session. (now s.store session).owed ≡ []) chosen
    → (place : Place) (column : ℕ)
    → fresh (schema_of s.store) (redo_all (changes_by s.store) chosen (committed s.store).rows) place column +ℤ over_sessions (pays_but chosen s place column)
    ≡ stored_number s.store.view place column

-- ---- snapshots

-- nothing was dropped that an open snapshot can need
abbrev pub MarkLaw : Type 0
MarkLaw = (s : State) → IsReached s → (session : ℕ) → (o : IsOpen s.store session) → o.transaction.mode ≡ Snapshot → s.store.mark ≤ o.transaction.number

-- the deltas above a number from the mark on are among those of which versions are kept
abbrev pub PruneLaw : Type 0
PruneLaw = (s : Store) (number : ℕ) → s.mark ≤ number → (d : GroupDelta) → Contains (deltas_above the_views number s.origin s.history) d → Contains (versions s) d

-- A number of a view row at the number of an open snapshot: what is stored now, less the pays of open transactions and the
-- deltas of the entries above that number.
abbrev pub SnapshotLaw : Type 0
SnapshotLaw = (s : State) → IsReached s → (session : ℕ) → (o : IsOpen s.store session) → o.transaction.mode ≡ Snapshot → (place : Place) (column : ℕ)
    → let at_number : Database = state_at s.store.origin s.store.history o.transaction.number in
    stored_number s.store.view place column ≡ (fresh at_number.schema at_number.rows place column
    +ℤ due place column (deltas_above the_views o.transaction.number s.store.origin s.store.history))
    +ℤ over_sessions (λ t. paid (increments place column (now s.store t).kept))

-- the changes that an entry keeps, the latest first
abbrev pub changes_in : List Kept → List RowChange
changes_in [] = []
changes_in (sets c ∷ ks) = changes_in ks ++ c ∷ []
changes_in (defines o ∷ ks) = changes_in ks

-- those of the entries above a number
abbrev pub changes_above : ℕ → List Entry → List RowChange
changes_above number [] = []
changes_above number (e ∷ es) = changes_above number es ++ (if nat_le e.number number then [] else changes_in e.kept)

-- The rows at a number: what is committed now, with the changes of the entries above that number taken back.
abbrev pub RowsAtLaw : Type 0
RowsAtLaw = (s : State) → IsReached s → (number : ℕ)
    → take_back (changes_above number s.store.history) (committed s.store).rows ≡ (state_at s.store.origin s.store.history number).rows

-- the database of a commit number: it has that number, it is sound, its views' numbers are in range, and so the query of none of
-- its views is refused
pub record IsReadableAt (number : ℕ) (db : Database) : Type 0 where
  pub number_is : db.number ≡ number
  pub sound : AreSound db.schema db.rows
  pub in_range : AreInRange db.schema db.rows
  pub views : (n : ℕ) (v : ViewTree) → numbered db.schema n ≡ Some (view v) → IsSome (whole_view db.schema db.rows v)

-- There is one at each number from the opened database's up to what is committed. So there is at the number of each open
-- snapshot, and its objects are those that are defined now.
abbrev pub SnapshotReadableLaw : Type 0
SnapshotReadableLaw = (s : State) → IsReached s
    → ((number : ℕ) → s.store.origin.number ≤ number → number ≤ (committed s.store).number → IsReadableAt number (state_at s.store.origin s.store.history number))
    × ((session : ℕ) → (o : IsOpen s.store session) → o.transaction.mode ≡ Snapshot →
    let at_number : Database = state_at s.store.origin s.store.history o.transaction.number in
    IsReadableAt o.transaction.number at_number × (at_number.schema ≡ schema_of s.store))

-- What a Peek is answered is what is read of the meaning at the number of the session's snapshot, and it changes nothing that is
-- stored. Whatever a snapshot may peek at, it can be answered so.
abbrev pub PeekLaw : Type 0
PeekLaw = (s : State) → IsReached s → (session number : ℕ) (interval : Interval)
    → ((rows : List Row) (after : State) → Step s session (act.Peek number interval) (answer.Rows rows) after
    → (o : IsOpen s.store session) × (o.transaction.mode ≡ Snapshot)
    × (read (state_at s.store.origin s.store.history o.transaction.number) number interval ≡ rows) × (after.store ≡ s.store))
    × (s.stop ≡ None → IsOpenIn s.store session Snapshot → MayPeek (numbered (schema_of s.store) number)
    → (rows : List Row) × (after : State) × Step s session (act.Peek number interval) (answer.Rows rows) after)

-- ---- answers

-- the same sessions, or want of memory
abbrev pub IsBlockedToo : Sessions → Answer → Type 0
IsBlockedToo sessions (answer.Blocked others) = (session : ℕ) → Contains (members sessions) session ↔ Contains (members others) session
IsBlockedToo sessions (answer.Refused refusal.NoMemory) = Unit {0}
IsBlockedToo sessions _ = ⊥

-- where a step is blocked it is answered so, and by these sessions, or memory was wanting
abbrev pub BlockedLaw : Type 0
BlockedLaw = (s : State) (session : ℕ) (a : Act) (sessions : Sessions) (said : Answer) (one other : State) → s.stop ≡ None
    → Step s session a (answer.Blocked sessions) one → Step s session a said other → IsBlockedToo sessions said

-- a deadlock too, or want of memory
abbrev pub IsDeadlockToo : Answer → Type 0
IsDeadlockToo (answer.Refused (refusal.Deadlock cycle)) = Unit {0}
IsDeadlockToo (answer.Refused refusal.NoMemory) = Unit {0}
IsDeadlockToo _ = ⊥

-- where a wait would close a cycle the step is answered so, or memory was wanting
abbrev pub DeadlockLaw : Type 0
DeadlockLaw = (s : State) (session : ℕ) (a : Act) (cycle : Cycle) (said : Answer) (one other : State) → s.stop ≡ None
    → Step s session a (answer.Refused (refusal.Deadlock cycle)) one → Step s session a said other → IsDeadlockToo said

-- what was kept can always be taken back, and a transaction that keeps nothing can always end
abbrev pub RollBackLaw : Type 0
RollBackLaw = (s : State) (session : ℕ) → s.stop ≡ None → (o : IsOpen s.store session)
    → ((latest : KeptStep) (earlier : List KeptStep) → o.transaction.kept ≡ latest ∷ earlier → (after : State) × Step s session act.UndoOne (answer.Undone (length earlier)) after)
    × (o.transaction.kept ≡ [] → (after : State) × Step s session act.End answer.Ended after)

-- a transaction that owes nothing can always commit
abbrev pub CanCommitLaw : Type 0
CanCommitLaw = (s : State) (session : ℕ) → s.stop ≡ None → (IsReady s.store session Serial ⊎ IsReady s.store session Snapshot)
    → (number : ℕ) × (after : State) × Step s session act.Commit (answer.Committed number) after
