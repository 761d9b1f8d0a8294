-- No clause of `run` rests on this module: it serves contracts between crates.
--
-- What sessions see of an engine: what was committed, and of each open transaction what it was told and what it keeps. Of which
-- locks are held, what is owed and what stands on a disk nothing is said here.
use Rattle.std.specs.Prelude.{◌≡◌, ◌≢◌, ℕ, ◌+◌, ◌==◌, ◌-◌, List, [], ◌∷◌, ◌++◌, length, Option, Some, None, Bool, true, false, IsTrue, if◌then◌else◌}
use Rattle.std.specs.List.{AllByRecursion}
use Rattle.iv_types.specs.declared.session.Sessions.{Sessions}
use Rattle.iv_types.specs.declared.statement.Mode.{Mode}
use Rattle.iv_types.specs.declared.statement.Mode.TheVariants.{Serial, Snapshot}
use Rattle.iv_types.specs.declared.refusal.Refusal.{Refusal}
use Rattle.iv_types.specs.declared.refusal.EngineRefusal.{EngineRefusal}
use Rattle.iv_types.specs.declared.refusal.EngineRefusal.TheVariants as engine
use Rattle.iv_types.specs.declared.reply.Reply.TheVariants as reply
use Rattle.iv_types.specs.declared.value.Interval.{Interval}
use Rattle.iv_types.specs.Syntax.{StatementTree}
use Rattle.table_laws.specs.Place.{Place}
use Rattle.iv_meaning.specs.Schema.{Schema}
use Rattle.iv_meaning.specs.Database.{Row, Database}
use Rattle.iv_meaning.specs.Statement.{Kept, sets}
use Rattle.iv_meaning.specs.Transaction.{outside, next_number}
use Rattle.iv_meaning.specs.History.{Entry, fold, state_at}
use Rattle.txn_machine.specs.Acts as act
use Rattle.txn_machine.specs.Acts.{Act}
use Rattle.txn_machine.specs.Answers as answer
use Rattle.txn_machine.specs.Answers.{Answer}
use Rattle.txn_machine.specs.Deltas.{RowChange}
use Rattle.txn_machine.specs.Alone.{Fact, Found, WasThere, TookBack, IsTrueIn}
use Rattle.txn_machine.specs.ViewLaws.{AreSound}

-- ---- steps

-- what a step that is answered so is to its session
pub data Event : Type 0 where
  -- it is to be done again
  Waits : Sessions → Event
  -- its group has no row yet, which is to be made first
  LacksRow : Event
  Fails : EngineRefusal → Event
  Begins : Mode → (number defs : ℕ) → Event
  Learns : Schema → Event
  Finds : (index : ℕ) (interval : Interval) (rows : List Row) → Event
  -- at a snapshot's number
  FindsThen : (index : ℕ) (interval : Interval) (rows : List Row) → Event
  -- it owes so many deltas
  Changes : Place → (new before : Option Row) → (owed : ℕ) → Event
  Pays : Event
  TakesBack : Event
  Ends : Event
  Commits : (number : ℕ) → Event
  Creates : StatementTree → (number : ℕ) → Event
  Denies : StatementTree → Refusal → Event
  -- nothing that a transaction is told of
  Idles : Event
  -- no such step is answered so
  Never : Event

abbrev pub event : Act → Answer → Event
event a (answer.Refused why) = Fails why
event (act.Fetch index interval mode) (answer.Blocked sessions) = Waits sessions
event (act.Put table key new) (answer.Blocked sessions) = Waits sessions
event act.Pay (answer.Blocked sessions) = Waits sessions
event (act.Begin mode) (answer.Begun number defs) = Begins mode number defs
event act.Defs (answer.Defs objects) = Learns objects
event (act.Fetch index interval mode) (answer.Rows rows) = Finds index interval rows
event (act.Peek index interval) (answer.Rows rows) = FindsThen index interval rows
event (act.Put table key new) (answer.Changed before owed) = Changes (table, key) new before (length owed)
event act.Pay (answer.Paid left) = Pays
event act.Pay answer.NeedsGhost = LacksRow
event act.Ghost answer.Ghosted = Idles
event act.UndoOne (answer.Undone left) = TakesBack
event act.End answer.Ended = Ends
event act.Commit (answer.Committed number) = Commits number
event (act.Schema statement) (answer.Committed number) = Creates statement number
event (act.Schema statement) (answer.Denied why) = Denies statement why
event act.Clean (answer.Cleaned count) = Idles
event act.Prune answer.Pruned = Idles
event act.Checkpoint (answer.Saved number) = Idles
event act.Cancel answer.Cancelled = Idles
event _ _ = Never

-- the engine says that it is stopped, or that its disk fails, which stops it
abbrev pub is_stop : Event → Bool
is_stop (Fails (engine.Stopped step)) = true
is_stop (Fails engine.DiskFault) = true
is_stop _ = false

abbrev pub is_deadlock_event : EngineRefusal → Bool
is_deadlock_event (engine.Deadlock cycle) = true
is_deadlock_event _ = false

-- To take back, to end and to commit is refused by a stopped engine alone; only a step that locks can meet a deadlock.
abbrev pub CanFail : Act → EngineRefusal → Type 0
CanFail act.UndoOne why = IsTrue (is_stop (Fails why))
CanFail act.End why = IsTrue (is_stop (Fails why))
CanFail act.Commit why = IsTrue (is_stop (Fails why))
CanFail (act.Fetch index interval lock) why = Unit {0}
CanFail (act.Put table key new) why = Unit {0}
CanFail act.Pay why = Unit {0}
CanFail a why = is_deadlock_event why ≡ false

abbrev pub CanCome : Act → Event → Type 0
CanCome a Never = ⊥
CanCome a (Fails why) = CanFail a why
CanCome a _ = Unit {0}

-- ---- open transactions

pub record Txn : Type 0 where
  pub mode : Mode
  -- the greatest commit number as it began, and the definitions
  pub number : ℕ
  pub objects : Schema
  -- the latest first
  pub told : List Fact
  -- the kept steps, the latest first: a change, or a pay
  pub kept : List (Option RowChange)
  -- how many deltas it owes, and whether the first of them is coming back
  pub owed : ℕ
  pub is_back : Bool

-- the changes of kept steps
abbrev pub changes : List (Option RowChange) → List RowChange
changes [] = []
changes (Some c ∷ ks) = c ∷ changes ks
changes (None ∷ ks) = changes ks

-- as a lone transaction keeps them, the first first
abbrev pub in_order : List RowChange → List Kept
in_order [] = []
in_order (c ∷ cs) = in_order cs ++ sets c ∷ []

abbrev pub kept_of : Txn → List Kept
kept_of t = in_order (changes t.kept)

-- all that a transaction was told is so in a sound database
pub record IsTruthful (db : Database) (t : Txn) : Type 0 where
  pub sound : AreSound db.schema db.rows
  pub schema : db.schema ≡ t.objects
  pub told : AllByRecursion (IsTrueIn db) t.told

-- a pay that is taken back is told nothing
abbrev pub taken_back : List (Option RowChange) → List Fact → List Fact
taken_back (Some c ∷ ks) told = TookBack (c ∷ changes ks) ∷ told
taken_back ks told = told

abbrev pub but_latest : List (Option RowChange) → List (Option RowChange)
but_latest [] = []
but_latest (k ∷ ks) = ks

-- a change that is taken back owes nothing any more, and a pay's delta is owed again and coming back
abbrev pub owed_again : List (Option RowChange) → ℕ → ℕ
owed_again (Some c ∷ ks) owed = 0
owed_again (None ∷ ks) owed = owed + 1
owed_again [] owed = owed

abbrev pub is_pay : List (Option RowChange) → Bool
is_pay (None ∷ ks) = true
is_pay ks = false

abbrev pub txn_after : Txn → Event → Option Txn
txn_after t (Finds index interval rows) = Some (record t { told = Found index interval rows (changes t.kept) ∷ t.told })
txn_after t (FindsThen index interval rows) = Some (record t { told = Found index interval rows [] ∷ t.told })
txn_after t (Changes place new before owed) = Some (record t {
  told = WasThere place new before (changes t.kept) ∷ t.told;
  kept = Some (record { key = place; before = before; after = new }) ∷ t.kept;
  owed = owed;
  is_back = false;
})
txn_after t Pays = Some (record t { kept = None ∷ t.kept; owed = t.owed - 1 })
txn_after t TakesBack = Some (record t { told = taken_back t.kept t.told; kept = but_latest t.kept; owed = owed_again t.kept t.owed; is_back = is_pay t.kept })
txn_after t Ends = None
txn_after t (Commits number) = None
txn_after t _ = Some t

abbrev pub new_txn : Mode → ℕ → Schema → Txn
new_txn mode number objects = record { mode = mode; number = number; objects = objects; told = []; kept = []; owed = 0; is_back = false }

-- ---- which steps may be asked for, as far as it is seen

-- it is of this mode and owes nothing
pub record IsReadyIn (mode : Mode) (t : Txn) : Type 0 where
  pub mode_is : t.mode ≡ mode
  pub owes_nothing : t.owed ≡ 0

pub record OwesSome (t : Txn) : Type 0 where
  pub mode_is : t.mode ≡ Serial
  pub owes : t.owed ≢ 0
  pub not_back : t.is_back ≡ false

abbrev pub MayWantIn : Txn → Act → Type 0
MayWantIn t act.Defs = Unit {0}
MayWantIn t (act.Fetch index interval lock) = IsReadyIn Serial t
MayWantIn t (act.Peek index interval) = IsReadyIn Snapshot t
MayWantIn t (act.Put table key new) = IsReadyIn Serial t
MayWantIn t act.Pay = OwesSome t
MayWantIn t act.UndoOne = t.kept ≢ []
MayWantIn t act.End = t.kept ≡ []
MayWantIn t act.Commit = IsReadyIn t.mode t
MayWantIn t a = ⊥

abbrev pub MayWant : Option Txn → Act → Type 0
MayWant None (act.Begin mode) = Unit {0}
MayWant None act.Defs = Unit {0}
MayWant None (act.Schema statement) = Unit {0}
MayWant None a = ⊥
MayWant (Some t) a = MayWantIn t a

-- ---- states

pub record Visible : Type 0 where
  pub origin : Database
  pub history : List Entry
  pub open_of : ℕ → Option Txn

abbrev pub committed : Visible → Database
committed v = fold v.history v.origin

-- the database that a transaction is to have run on alone
abbrev pub base : Visible → Txn → Database
base v t = elim t.mode [
  | Serial ↦ committed v
  | Snapshot ↦ state_at v.origin v.history t.number
]

abbrev pub kept_by : Option Txn → List Kept
kept_by None = []
kept_by (Some t) = kept_of t

-- the session's transaction after a step of it
abbrev pub open_after : Visible → Option Txn → Event → Option Txn
open_after v None (Begins mode number defs) = Some (new_txn mode number (committed v).schema)
open_after v None _ = None
open_after v (Some t) e = txn_after t e

-- the entry of a commit, if it keeps a change
abbrev pub entries : ℕ → ℕ → List Kept → List Entry
entries number session [] = []
entries number session (k ∷ ks) = record { number = number + 1; session = session; kept = k ∷ ks } ∷ []

abbrev pub history_after : Visible → ℕ → Event → List Entry
history_after v session (Commits number) = v.history ++ entries (committed v).number session (kept_by (v.open_of session))
history_after v session (Creates statement number) = v.history ++ entries (committed v).number session (outside statement (committed v)).kept
history_after v session _ = v.history

abbrev pub visible_after : Visible → ℕ → Event → Visible
visible_after v session e = record {
  origin = v.origin;
  history = history_after v session e;
  open_of = λ other. if other == session then open_after v (v.open_of session) e else v.open_of other;
}

-- ---- the laws of an engine that scripts stand on

-- an engine's states, what is seen of each, its steps, the states that it can be in, and those in which it is stopped
module _ {S : Type 0} (view : S → Visible) (Does : S → ℕ → Act → Answer → S → Type 0) (Stands Halts : S → Type 0) where
  pub record StepLaws : Type 0 where
    pub stands : (s after : S) (session : ℕ) (a : Act) (said : Answer) → Stands s → Does s session a said after → Stands after
    -- an act has one of its own answers
    pub answers : (s after : S) (session : ℕ) (a : Act) (said : Answer) → Stands s → Does s session a said after → CanCome a (event a said)
    -- a step changes what is seen of its own session alone, and a commit that keeps changes adds their entry
    pub moves : (s after : S) (session : ℕ) (a : Act) (said : Answer) → Stands s → Does s session a said after → view after ≡ visible_after (view s) session (event a said)
    -- an engine that says so is stopped, and one that is stopped says nothing else
    pub halts : (s after : S) (session : ℕ) (a : Act) (said : Answer) → Does s session a said after → IsTrue (is_stop (event a said)) → Halts after
    pub stays : (s after : S) (session : ℕ) (a : Act) (said : Answer) → Does s session a said after → Halts s → Halts after × IsTrue (is_stop (event a said))
    -- all that an open transaction was told is so, in what is committed or at the snapshot's number, and no definition was made since it began
    pub truth : (s : S) (session : ℕ) (t : Txn) → Stands s → (view s).open_of session ≡ Some t → IsTruthful (base (view s) t) t
    pub defined : (s : S) (session : ℕ) (t : Txn) → Stands s → (view s).open_of session ≡ Some t → t.objects ≡ (committed (view s)).schema
    -- a transaction begins at the greatest number, with all definitions, which Defs tells
    pub begins : (s after : S) (session : ℕ) (a : Act) (said : Answer) (mode : Mode) (number defs : ℕ) → Stands s → Does s session a said after
        → event a said ≡ Begins mode number defs → (number ≡ (committed (view s)).number) × (defs ≡ length (committed (view s)).schema)
    pub learns : (s after : S) (session : ℕ) (a : Act) (said : Answer) (objects : Schema) → Stands s → Does s session a said after
        → event a said ≡ Learns objects → objects ≡ (committed (view s)).schema
    -- one that commits is answered the next number, or that of its database where it keeps no change
    pub numbers : (s after : S) (session : ℕ) (a : Act) (said : Answer) (number : ℕ) (t : Txn) → Stands s → Does s session a said after
        → event a said ≡ Commits number → (view s).open_of session ≡ Some t → number ≡ next_number (kept_of t) (base (view s) t).number
    -- a CREATE statement is told what it means
    pub creates : (s after : S) (session : ℕ) (a : Act) (said : Answer) (statement : StatementTree) (number : ℕ) → Stands s → Does s session a said after
        → event a said ≡ Creates statement number → (outside statement (committed (view s))).replies ≡ reply.Done 0 ∷ reply.Commit number ∷ []
    pub denies : (s after : S) (session : ℕ) (a : Act) (said : Answer) (statement : StatementTree) (why : Refusal) → Stands s → Does s session a said after
        → event a said ≡ Denies statement why
        → ((outside statement (committed (view s))).replies ≡ reply.Error why ∷ []) × ((outside statement (committed (view s))).kept ≡ [])
    -- a checkpoint is answered the greatest number
    pub saves : (s after : S) (session number : ℕ) → Stands s → Does s session act.Checkpoint (answer.Saved number) after → number ≡ (committed (view s)).number
