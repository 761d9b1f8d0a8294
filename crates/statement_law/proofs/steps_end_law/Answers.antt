use Rattle.statement_law.proofs.Retrying.{steps_end_law}
use Rattle.statement_law.proofs.steps_end_law.Goals as goal

pub returns : goal.returns
returns c = steps_end_law
