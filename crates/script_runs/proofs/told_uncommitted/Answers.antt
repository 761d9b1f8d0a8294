use Rattle.script_runs.proofs.MissedTelling.{told_uncommitted}
use Rattle.script_runs.proofs.told_uncommitted.Goals as goal

pub returns : goal.returns
returns c = told_uncommitted
