use Rattle.query_laws.proofs.Asking.{asking_law}
use Rattle.query_laws.proofs.select.asking_law.Goals as goal

pub returns : goal.returns
returns c = asking_law
