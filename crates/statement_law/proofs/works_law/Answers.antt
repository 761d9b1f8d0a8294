use Rattle.statement_law.proofs.Works.{works_law}
use Rattle.statement_law.proofs.works_law.Goals as goal

pub returns : goal.returns
returns c = works_law
