-- Steps lead on from states that they lead to.
use Rattle.std.specs.Prelude.{ℕ, List, [], ◌∷◌, ◌++◌}
use mathlib.Core.Path.{refl, subst}
use Rattle.txn_machine.specs.Acts.{Act}
use Rattle.txn_machine.specs.Answers.{Answer}
use Rattle.txn_machine.specs.State.{State}
use Rattle.txn_machine.specs.Steps.{Step, Did, Run}
use Rattle.txn_machine.specs.Laws.{IsReached}

run_push : (s : State) (ds : List Did) (middle : State) (d : Did) (after : State) → Run s ds middle → Step middle d.session d.act d.said after → Run s (ds ++ d ∷ []) after
run_push s [] middle d after r step = (after, subst (λ x. Step x d.session d.act d.said after) r step, refl)
run_push s (x ∷ ds) middle d after r step = (r.0, r.1, run_push r.0 ds middle d after r.2 step)

pub leads_on : (s : State) (i : ℕ) (a : Act) (said : Answer) (after : State) → IsReached s → Step s i a said after → IsReached after
leads_on s i a said after r step = record {
  db = r.db;
  view = r.view;
  opening = r.opening;
  was_opened = r.was_opened;
  steps = r.steps ++ record { session = i; act = a; said = said } ∷ [];
  run = run_push _ r.steps s (record { session = i; act = a; said = said }) after r.run step;
}
