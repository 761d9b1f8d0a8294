use Rattle.query_laws.proofs.CreatingLemmas.{created_law}
use Rattle.query_laws.proofs.sound.created_law.Goals as goal

pub returns : goal.returns
returns c = created_law
