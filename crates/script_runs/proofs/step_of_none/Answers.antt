use Rattle.script_runs.proofs.Missed.{step_of_none}
use Rattle.script_runs.proofs.step_of_none.Goals as goal

pub returns : goal.returns
returns c = step_of_none
