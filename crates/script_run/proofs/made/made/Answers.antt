use Rattle.std.proofs.Common.{◌∙◌, ap}
use Rattle.std.proofs.lemmas.Result.{IfOk-weaker}
use Rattle.script_run.specs.Summary.{summary_text}
use Rattle.script_run.proofs.Pieces.{none_made, summed}
use Rattle.script_run.proofs.Ran.{beginning, just_opened}
use Rattle.script_run.proofs.made.made.Goals as goal

pub run_rounds-requires-clause-running : goal.run_rounds-requires-clause-running
run_rounds-requires-clause-running g c = just_opened (g.E.Stepper.stands c.args.engine.now) c.requires.opened c.in_ok-table.table c.in_ok-table.ensures.table c.in_ok-table.ensures.go

pub returns : goal.returns
returns g c = λ o.
    let first = none_made (g.E.Stepper.stands c.args.engine.now) o c.in_ok-table.table c.in_ok-table.ensures.table c.in_ok-table.ensures.go in
    let rounds = c.in_ok-run_rounds.ensures.ran (beginning o) o.db o.stands first in
    let last = c.in_ok-answer.ensures.ran rounds.story o.db _ rounds.holds.0 rounds.stands rounds.holds.1 in
    IfOk-weaker c.summary.result _ _
    (λ text told. summed o.db _ _ _ rounds.holds.0 _ _ _ last.story last.holds (c.number.ensures last.story.state last.stands) (told ∙ ap (summary_text _ _ _) c.deref.ensures.value)) c.summary.ensures
