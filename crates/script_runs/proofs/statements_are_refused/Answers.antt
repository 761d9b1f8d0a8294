use Rattle.script_runs.proofs.Worked.{statements_are_refused}
use Rattle.script_runs.proofs.statements_are_refused.Goals as goal

pub returns : goal.returns
returns c = statements_are_refused
