use Rattle.script_runs.proofs.Worked.{snapshot_is_kept}
use Rattle.script_runs.proofs.snapshot_is_kept.Goals as goal

pub returns : goal.returns
returns c = snapshot_is_kept
