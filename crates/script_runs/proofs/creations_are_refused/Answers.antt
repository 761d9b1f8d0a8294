use Rattle.script_runs.proofs.Worked.{creations_are_refused}
use Rattle.script_runs.proofs.creations_are_refused.Goals as goal

pub returns : goal.returns
returns c = creations_are_refused
