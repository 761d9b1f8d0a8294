use Rattle.statement_law.proofs.Telling.{escrow_law}
use Rattle.statement_law.proofs.escrow_law.Goals as goal

pub returns : goal.returns
returns c = escrow_law
