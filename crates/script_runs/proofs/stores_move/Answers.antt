use Rattle.script_runs.proofs.Worked.{stores_move}
use Rattle.script_runs.proofs.stores_move.Goals as goal

pub returns : goal.returns
returns c = stores_move
