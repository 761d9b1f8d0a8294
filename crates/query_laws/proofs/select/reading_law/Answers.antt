use Rattle.query_laws.proofs.ReadingLemmas.{reading_law}
use Rattle.query_laws.proofs.select.reading_law.Goals as goal

pub returns : goal.returns
returns c = reading_law
