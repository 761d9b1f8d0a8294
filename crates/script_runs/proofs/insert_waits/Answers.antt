use Rattle.script_runs.proofs.Worked.{insert_waits}
use Rattle.script_runs.proofs.insert_waits.Goals as goal

pub returns : goal.returns
returns c = insert_waits
