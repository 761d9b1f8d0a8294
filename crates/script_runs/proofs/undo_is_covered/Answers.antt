use Rattle.script_runs.proofs.Worked.{undo_is_covered}
use Rattle.script_runs.proofs.undo_is_covered.Goals as goal

pub returns : goal.returns
returns c = undo_is_covered
