use Rattle.script_runs.proofs.Worked.{savepoint_returns}
use Rattle.script_runs.proofs.savepoint_returns.Goals as goal

pub returns : goal.returns
returns c = savepoint_returns
