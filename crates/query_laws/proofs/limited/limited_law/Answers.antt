use Rattle.query_laws.proofs.LimitedLemmas.{limited_law}
use Rattle.query_laws.proofs.limited.limited_law.Goals as goal

pub returns : goal.returns
returns c = limited_law
