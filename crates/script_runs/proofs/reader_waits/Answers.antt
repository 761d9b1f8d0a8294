use Rattle.script_runs.proofs.Worked.{reader_waits}
use Rattle.script_runs.proofs.reader_waits.Goals as goal

pub returns : goal.returns
returns c = reader_waits
