use Rattle.script_runs.proofs.Worked.{insert_by_steps}
use Rattle.script_runs.proofs.insert_by_steps.Goals as goal

pub returns : goal.returns
returns c = insert_by_steps
