-- What other sessions may do after the steps of one.
use Rattle.std.specs.Prelude.{◌≡◌, ◌≢◌, ◌≤◌, ◌+◌, ℕ}
use mathlib.Core.Path.{ap, ◌∙◌}
use mathlib.Core.Logic.{inl, inr}
use Rattle.std.proofs.Common.{arith}
use Rattle.txn_machine.specs.Acts.{Act}
use Rattle.txn_machine.specs.Answers.{Answer}
use Rattle.txn_machine.specs.State.{State}
use Rattle.txn_machine.specs.Alone.{Story}
use Rattle.script_law.specs.Programs.{Todo}
use Rattle.script_law.specs.RunLines.{Outcome, RunsOn, has_ended, is_blocked, goes_on, StepsOnce, had_ended, steps_once}
use Rattle.script_law.specs.Machine.{DoesOf}
use Rattle.script_law.proofs.OverMachine.{machine_laws}
use Rattle.txn_sessions.specs.declared.session.Session.{Session}
use Rattle.session_asks.specs.Askable.{the_programs}
use Rattle.session_table.specs.Going.{the_tell, MayGo}
use Rattle.session_asks.proofs.Coming.{askable_other}
use Rattle.session_table.proofs.Counting.{within_more}

-- no step takes a count back
pub no_fewer : (s mid : Story) (n : ℕ) (a : Act) (said : Answer) → DoesOf s n a said mid → s.state.steps ≤ mid.state.steps
no_fewer s mid n a said does = elim does.1.does [
  | inl d ↦ let e : mid.state.steps ≡ s.state.steps + 1 = ap (λ (z : Story). z.state.steps) does.2 ∙ ap (λ (z : State). z.steps) d.left in omega (arith, e)
  | inr d ↦ let e : mid.state.steps ≡ s.state.steps = ap (λ (z : Story). z.state.steps) does.2 ∙ ap (λ (z : State). z.steps) d.left in omega (arith, e)
]

-- after one step of another session
pub other_step : (s mid : Story) (n : ℕ) (a : Act) (said : Answer) (x : Session) → n ≢ x.number → DoesOf s n a said mid → MayGo x s → MayGo x mid
other_step s mid n a said x differs does go = record {
  reached = machine_laws.stands s mid n a said go.reached does;
  askable = askable_other x.number _ s go.askable n a said mid differs does;
  within = within_more s.state.steps mid.state.steps (no_fewer s mid n a said does) x go.within;
}

-- after some steps of another
pub other_run : (n : ℕ) (x : Session) → n ≢ x.number → (todo : Todo) (s : Story) (count : ℕ) (o : Outcome) (after : Story) → RunsOn DoesOf the_programs the_tell n todo s count o after → MayGo x s → MayGo x after
other_run n x differs _ _ _ _ _ (has_ended replies standing s) go = go
other_run n x differs _ _ _ _ _ (is_blocked todo a s mid said sessions asks does is) go = other_step s mid n a said x differs does go
other_run n x differs _ _ _ _ _ (goes_on todo a s mid after said memory fewer o asks does free more) go =
    other_run n x differs _ mid fewer o after more (other_step s mid n a said x differs does go)

pub other_once : (n : ℕ) (x : Session) → n ≢ x.number → (todo : Todo) (s : Story) (o : Outcome) (after : Story) → StepsOnce DoesOf the_programs the_tell n todo s o after → MayGo x s → MayGo x after
other_once n x differs _ _ _ _ (had_ended replies standing s) go = go
other_once n x differs _ _ _ _ (steps_once todo a s after said memory asks does) go = other_step s after n a said x differs does go
