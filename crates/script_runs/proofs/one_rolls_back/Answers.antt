use Rattle.script_runs.proofs.Worked.{one_rolls_back}
use Rattle.script_runs.proofs.one_rolls_back.Goals as goal

pub returns : goal.returns
returns c = one_rolls_back
