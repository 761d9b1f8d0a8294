use Rattle.script_runs.proofs.Worked.{snapshot_by_steps}
use Rattle.script_runs.proofs.snapshot_by_steps.Goals as goal

pub returns : goal.returns
returns c = snapshot_by_steps
