use Rattle.statement_law.proofs.Asked.{asked_law}
use Rattle.statement_law.proofs.asked_law.Goals as goal

pub returns : goal.returns
returns c = asked_law
