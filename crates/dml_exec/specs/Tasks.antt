-- No clause of `run` rests on this module: it serves contracts between crates.
--
-- What a task has still to do, and what a turn tells of it.
use Rattle.std.specs.Prelude.{◌≡◌, ◌⊎◌, ℕ, List, [], ◌∷◌, ◌++◌, map, slice_get, Option, Some, None}
use Rattle.iv_types.specs.declared.catalog.TableDef.{TableDef}
use Rattle.iv_types.specs.declared.lock.LockMode.TheVariants.{Exclusive}
use Rattle.iv_types.specs.declared.refusal.Refusal.{Refusal}
use Rattle.iv_types.specs.declared.refusal.Refusal.TheVariants as refusal
use Rattle.iv_types.specs.declared.reply.Reply.TheVariants as reply
use Rattle.iv_types.specs.Intervals.{point}
use Rattle.iv_types.specs.Trees.{perhaps_tree}
use Rattle.iv_types.specs.Syntax.{Tree}
use Rattle.iv_meaning.specs.Schema.{Schema, Object, table, numbered}
use Rattle.iv_meaning.specs.Database.{Row, key_of}
use Rattle.iv_meaning.specs.Plan.{Part}
use Rattle.iv_meaning.specs.Reading as meant
use Rattle.iv_meaning.specs.Bound.{set_tree}
use Rattle.script_law.specs.Works.{Work, done, refuses, fetches, puts}
use Rattle.statement_law.specs.Inserting.{unless_there}
use Rattle.statement_law.specs.Changing.{on_interval, chosen_by, update_rows, delete_rows}
use Rattle.task_parts.specs.declared.turn.Told.{Told}
use Rattle.task_parts.specs.declared.turn.Told.TheVariants.{Nothing, Rows, Before}
use Rattle.task_parts.specs.declared.turn.Turn.{Turn}
use Rattle.task_parts.specs.declared.turn.Turn.TheVariants.{Fetch, Change, Done, Refused, NoMemory}
use Rattle.task_parts.specs.declared.source.Source.{Source}
use Rattle.task_parts.specs.Sources.{source_of}
use Rattle.statement_law.specs.Statements.{work_on}
use Rattle.dml_exec.specs.declared.pending.Pending.{Pending}
use Rattle.dml_exec.specs.declared.finding.What.{What}
use Rattle.dml_exec.specs.declared.finding.What.TheVariants.{Update, Delete}
use Rattle.dml_exec.specs.declared.finding.Place.{Place}
use Rattle.dml_exec.specs.declared.finding.Finding.{Finding}
use Rattle.dml_exec.specs.declared.finding.Changes.{Changes}
use Rattle.dml_exec.specs.declared.task.Cause.{Cause}
use Rattle.dml_exec.specs.declared.task.Cause.TheVariants as cause
use Rattle.dml_exec.specs.declared.task.Phase.{Phase}
use Rattle.dml_exec.specs.declared.task.Phase.TheVariants as phase
use Rattle.dml_exec.specs.declared.task.Task.{Task}

-- ---- changes

abbrev pub put_in : TableDef → Row → Pending
put_in t row = record { key = key_of t row; row = Some row }

abbrev pub taken_out : TableDef → Row → Pending
taken_out t row = record { key = key_of t row; row = None }

abbrev pub set_in : TableDef → Row × Row → Pending
set_in t p = record { key = key_of t p.0; row = Some p.1 }

-- they are made one after the other
abbrev pub puts_by : ℕ → List Pending → ℕ → Work
puts_by number [] count = done [] count
puts_by number (p ∷ ps) count = puts number p.key p.row (λ before. puts_by number ps count)

-- and before each its key is locked and read
abbrev pub inserts_by : ℕ → List Pending → ℕ → Work
inserts_by number [] count = done [] count
inserts_by number (p ∷ ps) count =
    fetches number (point p.key) Exclusive (λ found. unless_there found (puts number p.key p.row (λ before. inserts_by number ps count)))

-- nothing stands under the first one's key
abbrev pub free_by : ℕ → List Pending → ℕ → Work
free_by number [] count = done [] count
free_by number (p ∷ ps) count = puts number p.key p.row (λ before. inserts_by number ps count)

-- ---- rows that are found

abbrev pub changes_by : What → TableDef → Option (List Row) → Work
changes_by (Update sets) t rows = update_rows t (map set_tree sets) rows
changes_by Delete t rows = delete_rows t rows

-- what follows where the interval has these rows, in the order of their keys
abbrev pub found_work : Finding → List Row → Work
found_work f rows = changes_by f.what f.place.table (chosen_by (perhaps_tree f.condition) rows)

abbrev pub finding_work : Finding → Work
finding_work f = on_interval (source_of f.place.source ∷ []) (found_work f)

-- rows of a table that are found by these parts of a plan, and then changed
abbrev pub plan_work : Schema → ℕ → What → Option Tree → List Part → Work
plan_work objects number what condition parts =
    work_on (λ t. on_interval (map (meant.source_of objects) parts) (λ rows. changes_by what t (chosen_by condition rows))) (numbered objects number)

-- an object is the table that is read
abbrev pub IsTable : Option Object → Source → Option Place → Type 0
IsTable o source (Some p) = (o ≡ Some (table p.table)) × (p.source ≡ source)
IsTable o source None = (t : TableDef) → o ≡ Some (table t) → ⊥

-- the table of this number is read by the first of these parts, or there is no such table or no part
abbrev pub IsPlace : Schema → ℕ → List Part → Option Place → Type 0
IsPlace objects number parts (Some p) =
    (numbered objects number ≡ Some (table p.table)) × (slice_get (map (meant.source_of objects) parts) 0 ≡ Some (source_of p.source))
IsPlace objects number parts None =
    ((t : TableDef) → numbered objects number ≡ Some (table t) → ⊥) ⊎ (slice_get (map (meant.source_of objects) parts) 0 ≡ None)

-- these changes are made, or the statement is refused
abbrev pub work_found : ℕ → Option Changes → Work
work_found number None = refuses refusal.NumberRange
work_found number (Some found) = puts_by number found.pending.items found.count

-- ---- tasks

abbrev pub refusal_of : Cause → Refusal
refusal_of cause.NumberRange = refusal.NumberRange
refusal_of cause.DuplicateKey = refusal.DuplicateKey

abbrev pub left_in : Phase → ℕ → List Pending → ℕ → Work
left_in phase.Inserting number ps count = inserts_by number ps count
left_in phase.Free number ps count = free_by number ps count
left_in phase.Changing number ps count = puts_by number ps count
left_in (phase.Refused why) number ps count = refuses (refusal_of why)

abbrev pub left_of : Option Finding → Work → Work
left_of None w = w
left_of (Some f) w = finding_work f

abbrev pub left : Task → Work
left t = left_of t.finding (left_in t.phase t.table t.pending.items t.count)

-- ---- what it is told

-- a work is told the rows that it wanted; any other word leaves it as it is
abbrev pub after : Told → Work → Work
after (Rows rows) (fetches index interval lock f) = f rows
after told w = w

-- what is left of a task that is told this
abbrev pub left_when : Told → Task → Work
left_when told t = after told (left t)

-- ---- turns

-- The turn that a work comes to. Want of memory ends it.
abbrev pub IsTurn : Work → Turn → Type 0
IsTurn w NoMemory = Unit {0}
IsTurn (done listed count) (Done replies) = replies ≡ map reply.Row listed ++ reply.Done count ∷ []
IsTurn (refuses why) (Refused told) = told ≡ why
IsTurn (fetches index interval lock f) (Fetch i r m) = (i ≡ index) × (r ≡ interval) × (m ≡ lock)
IsTurn (puts number key new f) (Change t k row) = (t ≡ number) × (k ≡ key) × (row ≡ new)
IsTurn _ _ = ⊥

-- and what is left behind it, by what it is told then: where it is told nothing, it wants its rows again
abbrev pub GoesOn : Work → Turn → (Told → Work) → Type 0
GoesOn w NoMemory more = Unit {0}
GoesOn (fetches index interval lock f) turn more = (more Nothing ≡ fetches index interval lock f) × ((rows : List Row) → more (Rows rows) ≡ f rows)
GoesOn (puts number key new f) turn more = (before : Option Row) → more (Before before) ≡ f before
GoesOn w turn more = more Nothing ≡ w

-- a turn is the head of a work, and the task goes on behind it
pub record Moves (w : Work) (turn : Turn) (new : Task) : Type 0 where
  pub is_turn : IsTurn w turn
  pub goes_on : GoesOn w turn (λ told. left_when told new)
