use Rattle.statement_law.proofs.OneSession.{one_output_law}
use Rattle.statement_law.proofs.one_output_law.Goals as goal

pub returns : goal.returns
returns c = one_output_law
