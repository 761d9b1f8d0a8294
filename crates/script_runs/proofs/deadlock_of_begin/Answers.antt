use Rattle.script_runs.proofs.Missed.{deadlock_of_begin}
use Rattle.script_runs.proofs.deadlock_of_begin.Goals as goal

pub returns : goal.returns
returns c = deadlock_of_begin
