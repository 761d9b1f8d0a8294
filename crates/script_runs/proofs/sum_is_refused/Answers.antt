use Rattle.script_runs.proofs.Worked.{sum_is_refused}
use Rattle.script_runs.proofs.sum_is_refused.Goals as goal

pub returns : goal.returns
returns c = sum_is_refused
