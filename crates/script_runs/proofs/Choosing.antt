-- Which move a session makes where it asks for an act.
use Rattle.std.specs.Prelude.{◌≡◌, ℕ, zero, suc, ◌+◌, ◌^◌, Bool, true, false, List, [], ◌∷◌, map, length, ℤ, Option, Some, None, is_some, Result, Ok, Err, if◌then◌else◌}
use mathlib.Core.Path.{refl}
use Rattle.std.specs.FinMap.{find}
use Rattle.iv_types.specs.declared.lock.GroupDelta.{GroupDelta}
use Rattle.iv_types.specs.declared.lock.LockMode.{LockMode}
use Rattle.iv_types.specs.declared.lock.LockMode.TheVariants.{Share}
use Rattle.iv_types.specs.declared.lock.Want.{Want}
use Rattle.iv_types.specs.declared.session.Sessions.{Sessions}
use Rattle.iv_types.specs.declared.refusal.Refusal.{Refusal}
use Rattle.iv_types.specs.declared.value.Interval.{Interval}
use Rattle.iv_types.specs.Replies.{members}
use Rattle.iv_types.specs.Syntax.{StatementTree}
use Rattle.table_laws.specs.Place.{Place, place_cmp}
use Rattle.iv_meaning.specs.Schema.{Schema, Object, view, ViewTree, numbered, group_kinds}
use Rattle.iv_meaning.specs.Database.{Row}
use Rattle.iv_meaning.specs.Statement.{BoundTree}
use Rattle.txn_machine.specs.Acts as act
use Rattle.txn_machine.specs.Acts.{Act}
use Rattle.txn_machine.specs.Deltas.{columns_of, place_of}
use Rattle.txn_machine.specs.Keeping.{changes_of}
use Rattle.txn_machine.specs.May.{IsWritten}
use Rattle.txn_machine.specs.Store.{locks_of}
use Rattle.txn_machine.specs.Steps.{group_want}
use Rattle.txn_machine.proofs.PlainStates.{Plain, schema, txn, seen, is_nil, in_way, is_free, allows, is_cleanable}
use Rattle.txn_machine.proofs.Playing.{read_want, put_wants_in, bound_in, Move, act_of, begins, learns, scans, views, puts, lacks, makes, pays, undoes, ends, commits, leaves, refuses, blocks, deadlocks, reads_later, puts_later, cancels, peeks, creates, denies, finds_busy, cleans_none, cleans, prunes, saves}
use Rattle.statement_law.specs.Telling.{values_in}
use Rattle.script_runs.proofs.Written.{book}

-- a move of an act
pub data Chosen (a : Act) : Type 0 where
  chosen : (m : Move) → act_of m ≡ a → Chosen a
  none : Chosen a

-- ---- who is in the way

-- the set of those up to n that are in it
abbrev pub bits_to : ℕ → (ℕ → Bool) → ℕ
bits_to zero f = 0
bits_to (suc n) f = bits_to n f + (if f (suc n) then 2 ^ n else 0)

abbrev pub blockers : Plain → ℕ → List Want → Sessions
blockers p i wants = record { bits = bits_to 64 (in_way (locks_of p.of.store) i wants) }

-- the first of some that waits for this session
abbrev pub waits_back : Plain → ℕ → List ℕ → Option ℕ
waits_back p i [] = None
waits_back p i (j ∷ js) = elim (in_way (locks_of p.of.store) j (p.of.waiting j) i) [ true ↦ Some j | false ↦ waits_back p i js ]

-- ---- reads

-- the groups of stored rows of a view
abbrev pub groups_in : Schema → ViewTree → List (Place × List ℤ) → List Row
groups_in objects v es = map (λ e. values_in (group_kinds objects v) e.0.1) es

abbrev pub view_by : Plain → (number : ℕ) → (interval : Interval) → (lock : LockMode) → ViewTree → Chosen (act.Fetch number interval lock)
view_by p number interval Share v = chosen (views number interval (groups_in (schema p) v (seen p number interval))) refl
view_by p number interval lock v = none

abbrev pub read_by : Plain → (number : ℕ) → (interval : Interval) → (lock : LockMode) → Option Object → Chosen (act.Fetch number interval lock)
read_by p number interval lock (Some (view v)) = view_by p number interval lock v
read_by p number interval lock o = chosen (scans number interval lock) refl

-- ---- pays

-- of so many columns from this one on the first that does not allow
abbrev pub refusing : ℕ → ℕ → (ℕ → Bool) → Option ℕ
refusing zero from f = None
refusing (suc n) from f = elim (f from) [ true ↦ refusing n (from + 1) f | false ↦ Some from ]

abbrev pub pay_by : Option ℕ → Chosen act.Pay
pay_by None = chosen pays refl
pay_by (Some column) = chosen (refuses column) refl

abbrev pub wait_by : Plain → ℕ → Sessions → Option ℕ → Chosen act.Pay
wait_by p i sessions None = chosen (blocks sessions) refl
wait_by p i sessions (Some j) = chosen (deadlocks j sessions (blockers p j (p.of.waiting j))) refl

abbrev pub wait_for : Plain → ℕ → Sessions → Chosen act.Pay
wait_for p i sessions = wait_by p i sessions (waits_back p i (members sessions))

abbrev pub choose_pay : Plain → ℕ → List GroupDelta → Chosen act.Pay
choose_pay p i [] = none
choose_pay p i (d ∷ ds) = elim (is_free p i (group_want d ∷ [])) [
  | true ↦ elim (is_some (find place_cmp (place_of d) p.view)) [ true ↦ pay_by (refusing (length (columns_of d)) 0 (allows p i d)) | false ↦ chosen lacks refl ]
  | false ↦ wait_for p i (blockers p i (group_want d ∷ []))
]

-- ---- CREATE statements

-- of so many sessions from this one on the first that has a transaction
abbrev pub first_open : Plain → ℕ → ℕ → Option ℕ
first_open p zero from = None
first_open p (suc n) from = if is_some (p.of.store.open_of from) then Some from else first_open p n (from + 1)

abbrev pub unless_open : (statement : StatementTree) → IsWritten statement → Option ℕ → Chosen (act.Schema statement)
unless_open statement written None = chosen (creates statement written) refl
unless_open statement written (Some busy) = chosen (finds_busy statement written busy) refl

abbrev pub bound_so : Plain → (statement : StatementTree) → IsWritten statement → Result BoundTree Refusal → Chosen (act.Schema statement)
bound_so p statement written (Err why) = chosen (denies statement written) refl
bound_so p statement written (Ok bound) = unless_open statement written (first_open p 64 1)

-- one that is known to be written
abbrev pub creation_by : Plain → (statement : StatementTree) → Option (IsWritten statement) → Chosen (act.Schema statement)
creation_by p statement None = none
creation_by p statement (Some written) = bound_so p statement written (bound_in p statement)

-- ---- all acts

abbrev pub choose_clean : Plain → List (Place × List ℤ) → Chosen act.Clean
choose_clean p [] = chosen cleans_none refl
choose_clean p (e ∷ es) = elim (is_cleanable p e.0) [ true ↦ chosen (cleans e.0) refl | false ↦ choose_clean p es ]

abbrev pub choose : Plain → ℕ → (a : Act) → Chosen a
choose p i (act.Begin mode) = chosen (begins mode) refl
choose p i act.Defs = chosen learns refl
choose p i (act.Fetch number interval lock) = elim (is_free p i (read_want number interval lock)) [
  | true ↦ read_by p number interval lock (numbered (schema p) number)
  | false ↦ chosen (reads_later number interval lock (blockers p i (read_want number interval lock))) refl
]
choose p i (act.Peek number interval) = chosen (peeks number interval) refl
choose p i (act.Put number key new) = elim (is_free p i (put_wants_in p number key new)) [
  | true ↦ chosen (puts number key new) refl
  | false ↦ chosen (puts_later number key new (blockers p i (put_wants_in p number key new))) refl
]
choose p i (act.Schema statement) = creation_by p statement (book statement)
choose p i act.Pay = choose_pay p i (txn p i).owed
choose p i act.Ghost = chosen makes refl
choose p i act.UndoOne = chosen undoes refl
choose p i act.End = chosen ends refl
choose p i act.Commit = elim (is_nil (changes_of (txn p i).kept)) [ true ↦ chosen leaves refl | false ↦ chosen commits refl ]
choose p i act.Clean = choose_clean p p.view
choose p i act.Prune = chosen prunes refl
choose p i act.Cancel = chosen cancels refl
choose p i act.Checkpoint = chosen saves refl
