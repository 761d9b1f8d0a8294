use Rattle.statement_law.proofs.Refused.{deadlocks_law}
use Rattle.statement_law.proofs.deadlocks_law.Goals as goal

pub returns : goal.returns
returns c = deadlocks_law
