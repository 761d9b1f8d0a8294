use Rattle.query_laws.proofs.SoundLemmas.{inserted_law}
use Rattle.query_laws.proofs.sound.inserted_law.Goals as goal

pub returns : goal.returns
returns c = inserted_law
