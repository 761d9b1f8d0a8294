use Rattle.script_runs.proofs.Worked.{room_is_freed}
use Rattle.script_runs.proofs.room_is_freed.Goals as goal

pub returns : goal.returns
returns c = room_is_freed
