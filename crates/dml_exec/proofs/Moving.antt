-- Lemmas on what turns tell, and on what a task is told.
use Rattle.std.specs.Prelude.{◌≡◌, ◌<◌, ℕ, List, [], ◌∷◌, length, drop, get_or, Option}
use Rattle.std.proofs.Common.{arith}
use mathlib.Core.Path.{refl, sym, ap, subst, ◌∙◌}
use Rattle.iv_types.specs.declared.value.Interval.{Interval}
use Rattle.iv_types.specs.declared.lock.LockMode.{LockMode}
use Rattle.iv_types.specs.declared.refusal.Refusal.TheVariants as refusal
use Rattle.iv_meaning.specs.Database.{Row}
use Rattle.script_law.specs.Works.{Work, done, refuses, fetches, puts}
use Rattle.task_parts.specs.declared.turn.Told.TheVariants.{Nothing, Rows, Before}
use Rattle.task_parts.specs.declared.turn.Turn.{Turn}
use Rattle.task_parts.specs.declared.turn.Turn.TheVariants.{Fetch, Peek, Change, Done, Refused, NoMemory}
use Rattle.dml_exec.specs.declared.pending.Pending.{Pending}
use Rattle.dml_exec.specs.declared.task.Phase.{Phase}
use Rattle.dml_exec.specs.declared.task.Phase.TheVariants as phase
use Rattle.dml_exec.specs.declared.task.Task.{Task}
use Rattle.dml_exec.specs.Tasks.{inserts_by, free_by, left_in, left, after, left_when, IsTurn, GoesOn, Moves}

-- ---- what is told

pub stays_before : (w : Work) (row : Option Row) → after (Before row) w ≡ w
stays_before (done listed count) row = refl
stays_before (refuses why) row = refl
stays_before (fetches index interval lock f) row = refl
stays_before (puts number key new f) row = refl

-- nothing is under the key
pub looked_free : (number : ℕ) (ps : List Pending) (count : ℕ) → 0 < length ps → free_by number ps count ≡ after (Rows []) (inserts_by number ps count)
looked_free number [] count h = absurd (omega (arith, h))
looked_free number (p ∷ ps) count h = refl

-- a row is
pub looked_there : (number : ℕ) (ps : List Pending) (count : ℕ) (rows : List Row) → 0 < length ps → 0 < length rows
    → refuses refusal.DuplicateKey ≡ after (Rows rows) (inserts_by number ps count)
looked_there number [] count rows h some = absurd (omega (arith, h))
looked_there number (p ∷ ps) count [] h some = absurd (omega (arith, some))
looked_there number (p ∷ ps) count (row ∷ rows) h some = refl

-- no rows were wanted
pub not_wanted : (p : Phase) (number : ℕ) (ps : List Pending) (count : ℕ) (rows : List Row) → (p ≡ phase.Inserting → ⊥)
    → left_in p number ps count ≡ after (Rows rows) (left_in p number ps count)
not_wanted phase.Inserting number ps count rows h = absurd (h refl)
not_wanted phase.Free number [] count rows h = refl
not_wanted phase.Free number (p ∷ ps) count rows h = refl
not_wanted phase.Changing number [] count rows h = refl
not_wanted phase.Changing number (p ∷ ps) count rows h = refl
not_wanted (phase.Refused why) number ps count rows h = refl

pub none_wanted : (p : Phase) (number : ℕ) (count : ℕ) (rows : List Row) → left_in p number [] count ≡ after (Rows rows) (left_in p number [] count)
none_wanted phase.Inserting number count rows = refl
none_wanted phase.Free number count rows = refl
none_wanted phase.Changing number count rows = refl
none_wanted (phase.Refused why) number count rows = refl

-- ---- turns

put_goes : (number : ℕ) (p : Pending) (next : Work) (turn : Turn) (new : Task) → left new ≡ next
    → GoesOn (puts number p.key p.row (λ before. next)) turn (λ told. left_when told new)
put_goes number p next NoMemory new e = tt
put_goes number p next (Fetch i r m) new e = λ before. stays_before (left new) before ∙ e
put_goes number p next (Peek i r) new e = λ before. stays_before (left new) before ∙ e
put_goes number p next (Change t k n) new e = λ before. stays_before (left new) before ∙ e
put_goes number p next (Done replies) new e = λ before. stays_before (left new) before ∙ e
put_goes number p next (Refused why) new e = λ before. stays_before (left new) before ∙ e

-- a change is wanted, and the task has what follows
pub put_moves : (w : Work) (number : ℕ) (p : Pending) (next : Work) (turn : Turn) (new : Task) → w ≡ puts number p.key p.row (λ before. next)
    → ((more : Option Row → Work) → IsTurn (puts number p.key p.row more) turn) → left new ≡ next → Moves w turn new
put_moves w number p next turn new e is more =
    subst (λ v. Moves v turn new) (sym e) (record { is_turn = is (λ before. next); goes_on = put_goes number p next turn new more })

fetch_goes : (index : ℕ) (interval : Interval) (lock : LockMode) (f : List Row → Work) (turn : Turn) (new : Task) → left new ≡ fetches index interval lock f
    → GoesOn (fetches index interval lock f) turn (λ told. left_when told new)
fetch_goes index interval lock f NoMemory new e = tt
fetch_goes index interval lock f (Fetch i r m) new e = (ap (after Nothing) e, λ rows. ap (after (Rows rows)) e)
fetch_goes index interval lock f (Peek i r) new e = (ap (after Nothing) e, λ rows. ap (after (Rows rows)) e)
fetch_goes index interval lock f (Change t k n) new e = (ap (after Nothing) e, λ rows. ap (after (Rows rows)) e)
fetch_goes index interval lock f (Done replies) new e = (ap (after Nothing) e, λ rows. ap (after (Rows rows)) e)
fetch_goes index interval lock f (Refused why) new e = (ap (after Nothing) e, λ rows. ap (after (Rows rows)) e)

-- rows are wanted, and the task stays where it is
pub fetch_moves : (w : Work) (index : ℕ) (interval : Interval) (lock : LockMode) (f : List Row → Work) (turn : Turn) (new : Task) → w ≡ fetches index interval lock f
    → IsTurn (fetches index interval lock f) turn → left new ≡ w → Moves w turn new
fetch_moves w index interval lock f turn new e is stays =
    subst (λ v. Moves v turn new) (sym e) (record { is_turn = is; goes_on = fetch_goes index interval lock f turn new (stays ∙ e) })

pub first_is : {X : Type 0} (xs : List X) (x : X) → 0 < length xs → x ≡ get_or xs 0 x → xs ≡ x ∷ drop 1 xs
first_is [] x h e = absurd (omega (arith, h))
first_is (y ∷ xs) x h e = ap (λ z. z ∷ xs) (sym e)
