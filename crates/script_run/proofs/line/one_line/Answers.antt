use Rattle.script_run.proofs.Ran.{line_ran, lost_at}
use Rattle.script_run.proofs.line.one_line.Goals as goal

pub returns : goal.returns
returns g c = record {
  ran = line_ran c.run_line.result _ _ _ _ _ _ _ _ c.asked-request.ensures.says c.run_line.ensures.ran;
  lost = lost_at c.run_line.result _ _ _ c.run_line.ensures.lost;
}
