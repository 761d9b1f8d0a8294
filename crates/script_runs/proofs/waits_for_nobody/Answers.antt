use Rattle.script_runs.proofs.MissedWaiting.{waits_for_nobody}
use Rattle.script_runs.proofs.waits_for_nobody.Goals as goal

pub returns : goal.returns
returns c = waits_for_nobody
