use Rattle.iv_meaning.proofs.SerialLemmas.{outside_law}
use Rattle.iv_meaning.proofs.laws.outside_law.Goals as goal

pub returns : goal.returns
returns c = outside_law
