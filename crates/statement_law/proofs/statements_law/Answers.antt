use Rattle.statement_law.proofs.Works.{statements_law}
use Rattle.statement_law.proofs.statements_law.Goals as goal

pub returns : goal.returns
returns c = statements_law
