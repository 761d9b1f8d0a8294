use Rattle.query_laws.proofs.LimitedLemmas.{numbers_law}
use Rattle.query_laws.proofs.limited.numbers_law.Goals as goal

pub returns : goal.returns
returns c = numbers_law
