use Rattle.script_runs.proofs.Worked.{refused_insert}
use Rattle.script_runs.proofs.refused_insert.Goals as goal

pub returns : goal.returns
returns c = refused_insert
