use Rattle.query_laws.proofs.SoundLemmas.{relations_law}
use Rattle.query_laws.proofs.sound.relations_law.Goals as goal

pub returns : goal.returns
returns c = relations_law
