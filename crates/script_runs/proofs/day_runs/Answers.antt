use Rattle.script_runs.proofs.Worked.{day_runs}
use Rattle.script_runs.proofs.day_runs.Goals as goal

pub returns : goal.returns
returns c = day_runs
