use Rattle.script_runs.proofs.Worked.{ghost_is_cleaned}
use Rattle.script_runs.proofs.ghost_is_cleaned.Goals as goal

pub returns : goal.returns
returns c = ghost_is_cleaned
