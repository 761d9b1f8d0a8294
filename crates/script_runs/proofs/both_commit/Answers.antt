use Rattle.script_runs.proofs.Worked.{both_commit}
use Rattle.script_runs.proofs.both_commit.Goals as goal

pub returns : goal.returns
returns c = both_commit
