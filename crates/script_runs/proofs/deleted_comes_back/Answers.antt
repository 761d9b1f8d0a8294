use Rattle.script_runs.proofs.Worked.{deleted_comes_back}
use Rattle.script_runs.proofs.deleted_comes_back.Goals as goal

pub returns : goal.returns
returns c = deleted_comes_back
