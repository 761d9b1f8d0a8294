use Rattle.script_runs.proofs.Missed.{refused_by_none}
use Rattle.script_runs.proofs.refused_by_none.Goals as goal

pub returns : goal.returns
returns c = refused_by_none
