use Rattle.script_runs.proofs.Worked.{both_are_tried}
use Rattle.script_runs.proofs.both_are_tried.Goals as goal

pub returns : goal.returns
returns c = both_are_tried
