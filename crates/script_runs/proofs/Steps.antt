-- Statements that are played are run.
use Rattle.std.specs.Prelude.{◌≡◌, ℕ, zero, suc, nat_le, Bool, true, false, ◌&&◌, T, List, [], Some, None}
use mathlib.Core.Path.{refl, sym, subst}
use Rattle.txn_machine.specs.Acts as act
use Rattle.txn_machine.specs.Acts.{Act}
use Rattle.txn_machine.specs.Answers.{Answer}
use Rattle.txn_machine.specs.Steps.{Step}
use Rattle.txn_machine.specs.Alone.{Fact, Story, story_after}
use Rattle.txn_machine.proofs.PlainStates.{Plain, state_of}
use Rattle.txn_machine.proofs.Playing.{is_in_order, Move, act_of, test, said_of, after}
use Rattle.txn_machine.proofs.Played.{sound}
use Rattle.txn_machine.proofs.MovesAlone.{in_order}
use Rattle.txn_machine.proofs.Testing.{left_one, right_one, at_most}
use Rattle.script_law.specs.Seen.{Event, Waits, event}
use Rattle.script_law.specs.Programs.{Todo, says, asks, ghosts}
use Rattle.script_law.specs.RunLines.{act_of as asked, next_of, outcome_of, IsNotBlocked, RunsOn, has_ended, is_blocked, goes_on, StepsOnce, had_ended, steps_once}
use Rattle.script_law.specs.Machine.{DoesOf}
use Rattle.statement_law.specs.Telling.{tell}
use Rattle.script_runs.proofs.Choosing.{Chosen, chosen, none, choose}
use Rattle.script_runs.proofs.Plays.{programs, doing, Came, fails, at_rest, goes_by, moves, advance, one_step, once}

-- what each session was told
abbrev pub Told : Type 0
Told = ℕ → List Fact

abbrev pub story : Plain → Told → Story
story p told = record { state = state_of p; told = told }

-- after a step
abbrev pub told_then : Plain → Told → ℕ → Act → Answer → Told
told_then p told i a said = (story_after (story p told) (record { session = i; act = a; said = said }) (state_of p)).told

-- it is a step of the machine
abbrev pub IsStep : Plain → ℕ → Act → Answer → Plain → Type 0
IsStep p i a said q = (told : Told) → DoesOf (story p told) i a said (story q (told_then p told i a said))

step_so : (p : Plain) (i : ℕ) (a : Act) (m : Move) → act_of m ≡ a → T (is_in_order p && (nat_le i 64 && test p i m)) → IsStep p i a (said_of p i m) (after p i m)
step_so p i a m e h told =
    let more = right_one (is_in_order p) (nat_le i 64 && test p i m) h in (
      state_of (after p i m),
      subst (λ (x : Act). Step (state_of p) i x (said_of p i m) (state_of (after p i m))) e
          (sound p i (in_order p (left_one (is_in_order p) (nat_le i 64 && test p i m) h)) (at_most i 64 (left_one (nat_le i 64) (test p i m) more)) m (right_one (nat_le i 64) (test p i m) more)),
      refl,
    )

-- what holds of what follows each step, and where none passes, holds of a play that goes on by one
module _ {X : Type 0} (P : X → Type 0) (p : Plain) (i : ℕ) (a : Act) where
  by_test : (m : Move) (next : Answer → Plain → X) (lost : X) (b : Bool) → (T b → P (next (said_of p i m) (after p i m))) → P lost
      → P (elim b [ true ↦ next (said_of p i m) (after p i m) | false ↦ lost ])
  by_test m next lost true h l = h tt
  by_test m next lost false h l = l

  pub doing_so : (c : Chosen a) (next : Answer → Plain → X) (lost : X) → ((said : Answer) (q : Plain) → IsStep p i a said q → P (next said q)) → P lost → P (doing p i a c next lost)
  doing_so none next lost h l = l
  doing_so (chosen m e) next lost h l =
      by_test m next lost (is_in_order p && (nat_le i 64 && test p i m)) (λ t. h (said_of p i m) (after p i m) (step_so p i a m e t)) l

-- ---- how far a statement comes

abbrev pub ComesTo : ℕ → Todo → Plain → Came → Type 0
ComesTo i todo p c = T c.passes → (told : Told) → (later : Told) × RunsOn DoesOf programs (tell [] None) i todo (story p told) c.moved c.outcome (story c.left later)

module _ (i : ℕ) (todo : Todo) (a : Act) (is : asked todo ≡ Some a) (p : Plain) where
  goes_so : (More : Todo → Plain → Came) → ((t : Todo) (q : Plain) → ComesTo i t q (More t q)) → (said : Answer) (q : Plain) → IsStep p i a said q
      → (e : Event) → event a said ≡ e → ComesTo i todo p (goes_by e todo (next_of todo said true) q More)
  goes_so More all said q does (Waits sessions) eq h told =
      (told_then p told i a said, is_blocked todo a (story p told) (story q (told_then p told i a said)) said sessions is (does told) eq)
  goes_so More all said q does e eq h told =
      let next : Todo = next_of todo said true in
      let c : Came = More next q in
      let mid : Told = told_then p told i a said in
      let r = all next q h mid in
      (r.0, goes_on todo a (story p told) (story q mid) (story c.left r.0) said true c.moved c.outcome is (does told) (subst IsNotBlocked (sym eq) tt) r.1)

  moves_so : (More : Todo → Plain → Came) → ((t : Todo) (q : Plain) → ComesTo i t q (More t q)) → ComesTo i todo p (moves i a todo p More)
  moves_so More all = doing_so (ComesTo i todo p) p i a (choose p i a) (λ said q. goes_by (event a said) todo (next_of todo said true) q More) (fails todo p)
      (λ said q does. goes_so More all said q does (event a said) refl) (λ h. absurd h)

pub advance_so : (n i : ℕ) (todo : Todo) (p : Plain) → ComesTo i todo p (advance n i todo p)
advance_so zero i todo p h told = absurd h
advance_so (suc n) i (says replies standing) p h told = (told, has_ended replies standing (story p told))
advance_so (suc n) i (asks a f) p h told = moves_so i (asks a f) a refl p (advance n i) (advance_so n i) h told
advance_so (suc n) i (ghosts f) p h told = moves_so i (ghosts f) act.Ghost refl p (advance n i) (advance_so n i) h told

-- ---- one step of it

abbrev pub StepsTo : ℕ → Todo → Plain → Came → Type 0
StepsTo i todo p c = T c.passes → (told : Told) → (later : Told) × StepsOnce DoesOf programs (tell [] None) i todo (story p told) c.outcome (story c.left later)

one_step_so : (i : ℕ) (todo : Todo) (a : Act) → asked todo ≡ Some a → (p : Plain) → StepsTo i todo p (one_step i a todo p)
one_step_so i todo a is p = doing_so (StepsTo i todo p) p i a (choose p i a) (λ said q. at_rest (outcome_of (event a said) todo (next_of todo said true)) q) (fails todo p)
    (λ said q does h told. (told_then p told i a said, steps_once todo a (story p told) (story q (told_then p told i a said)) said true is (does told))) (λ h. absurd h)

pub once_so : (i : ℕ) (todo : Todo) (p : Plain) → StepsTo i todo p (once i todo p)
once_so i (says replies standing) p h told = (told, had_ended replies standing (story p told))
once_so i (asks a f) p h told = one_step_so i (asks a f) a refl p h told
once_so i (ghosts f) p h told = one_step_so i (ghosts f) act.Ghost refl p h told
