use Rattle.statement_law.proofs.Telling.{key_law}
use Rattle.statement_law.proofs.key_law.Goals as goal

pub returns : goal.returns
returns c = key_law
