use Rattle.statement_law.proofs.Retrying.{retries_end_law}
use Rattle.statement_law.proofs.retries_end_law.Goals as goal

pub returns : goal.returns
returns c = retries_end_law
