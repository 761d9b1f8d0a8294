-- No clause of `run` rests on this module: it serves contracts between crates.
--
-- What transactions are told, and programs of reads and writes that run alone.
use Rattle.std.specs.Prelude.{◌≡◌, ℕ, List, [], ◌∷◌, Option}
use Rattle.std.specs.FinMap.{get}
use Rattle.iv_types.specs.declared.value.Interval.{Interval}
use Rattle.table_laws.specs.Place.{Place}
use Rattle.table_laws.specs.Kept.{redo}
use Rattle.iv_meaning.specs.Database.{Row, Database}
use Rattle.iv_meaning.specs.View.{read}
use Rattle.txn_machine.specs.Acts as act
use Rattle.txn_machine.specs.Acts.{Act}
use Rattle.txn_machine.specs.Answers as answer
use Rattle.txn_machine.specs.Answers.{Answer}
use Rattle.txn_machine.specs.Locks.{with_one}
use Rattle.txn_machine.specs.Deltas.{RowChange}
use Rattle.txn_machine.specs.Keeping.{KeptStep, Put, Pay, changes_of}
use Rattle.txn_machine.specs.Store.{Store, now, changes_by}
use Rattle.txn_machine.specs.State.{State}
use Rattle.txn_machine.specs.Steps.{Did, Step}

-- ---- what is told

-- what a step was told, with the changes that its transaction kept before it, the latest first
pub data Fact : Type 0 where
  Found : (number : ℕ) (interval : Interval) (rows : List Row) (kept : List RowChange) → Fact
  WasThere : (place : Place) (new before : Option Row) (kept : List RowChange) → Fact
  TookBack : (kept : List RowChange) → Fact

-- with the latest kept step, if that is a change, taken back
abbrev pub told_of_undo : List KeptStep → List Fact → List Fact
told_of_undo [] told = told
told_of_undo (Put c owed ∷ ks) told = TookBack (changes_of (Put c owed ∷ ks)) ∷ told
told_of_undo (Pay d ∷ ks) told = told

-- what a session's open transaction was told, the latest first, after one more step of the session
abbrev pub told_after : Store → ℕ → Act → Answer → List Fact → List Fact
told_after s session (act.Begin mode) (answer.Begun number defs) told = []
told_after s session (act.Fetch number interval mode) (answer.Rows rows) told = Found number interval rows (changes_by s session) ∷ told
told_after s session (act.Peek number interval) (answer.Rows rows) told = Found number interval rows [] ∷ told
told_after s session (act.Put number key new) (answer.Changed before owed) told = WasThere (number, key) new before (changes_by s session) ∷ told
told_after s session act.UndoOne (answer.Undone left) told = told_of_undo (now s session).kept told
told_after s session act.End answer.Ended told = []
told_after s session act.Commit (answer.Committed number) told = []
told_after s session _ _ told = told

-- a state, with what each session's transaction was told so far
pub record Story : Type 0 where
  pub state : State
  pub told : ℕ → List Fact

abbrev pub story_after : Story → Did → State → Story
story_after story d after = record {
  state = after;
  told = with_one story.told d.session (told_after story.state.store d.session d.act d.said (story.told d.session));
}

-- ---- what is true of a database

-- the database with these changes
abbrev pub with_changes : List RowChange → Database → Database
with_changes changes db = record db { rows = redo changes db.rows }

-- what was told is so in the database with the changes that were kept then, views evaluated afresh
abbrev pub IsTrueIn : Database → Fact → Type 0
IsTrueIn db (Found number interval rows kept) = read (with_changes kept db) number interval ≡ rows
IsTrueIn db (WasThere place new before kept) = before ≡ get (redo kept db.rows) place
IsTrueIn db (TookBack kept) = Unit {0}

-- ---- programs

-- a transaction's reads and writes, each with what follows when it is told
pub data Dialogue (R : Type 0) : Type 0 where
  Done : R → Dialogue R
  Fetch : (number : ℕ) (interval : Interval) → (List Row → Dialogue R) → Dialogue R
  Change : Place → Option Row → (Option Row → Dialogue R) → Dialogue R
  Undo : Dialogue R → Dialogue R

abbrev pub without_latest : List RowChange → List RowChange
without_latest [] = []
without_latest (c ∷ cs) = cs

module _ (IsSo : Fact → Type 0) where
  -- the program does one step, is told something that is so, and goes on with these changes
  abbrev pub Next : {R : Type 0} → Dialogue R → List RowChange → Fact → Dialogue R → List RowChange → Type 0
  Next (Fetch number interval f) cs (Found n i rows kept) q ds =
      (n ≡ number) × (i ≡ interval) × (kept ≡ cs) × IsSo (Found n i rows kept) × (q ≡ f rows) × (ds ≡ cs)
  Next (Change place new f) cs (WasThere p o before kept) q ds =
      (p ≡ place) × (o ≡ new) × (kept ≡ cs) × IsSo (WasThere p o before kept) × (q ≡ f before) × (ds ≡ record { key = place; before = before; after = new } ∷ cs)
  Next (Undo p) cs (TookBack kept) q ds = (kept ≡ cs) × (q ≡ p) × (ds ≡ without_latest cs)
  Next _ cs _ q ds = ⊥

  -- and so on for all that was told, of which the latest stands first
  abbrev pub Goes : {R : Type 0} → Dialogue R → List Fact → Dialogue R → List RowChange → Type 0
  Goes p [] q cs = (q ≡ p) × (cs ≡ [])
  Goes {R} p (t ∷ ts) q cs = (middle : Dialogue R) × (ds : List RowChange) × Goes p ts middle ds × Next middle ds t q cs

-- what was told leads the program here
abbrev pub IsLed : {R : Type 0} → Dialogue R → List Fact → Dialogue R → List RowChange → Type 0
IsLed p told q cs = Goes (λ t. Unit {0}) p told q cs

-- the program that runs alone on the database is told the same, and comes here
abbrev pub RunsAlone : {R : Type 0} → Database → Dialogue R → List Fact → Dialogue R → List RowChange → Type 0
RunsAlone db p told q cs = Goes (IsTrueIn db) p told q cs

-- ---- runs with what was told

abbrev pub begun_story : State → Story
begun_story s = record { state = s; told = λ session. [] }

abbrev pub Unfolds : Story → List Did → Story → Type 0
Unfolds story [] after = after ≡ story
Unfolds story (d ∷ ds) after =
    (middle : State) × Step story.state d.session d.act d.said middle × Unfolds (story_after story d middle) ds after
