use Rattle.iv_meaning.proofs.SaidLemmas.{says_law}
use Rattle.iv_meaning.proofs.laws.says_law.Goals as goal

pub returns : goal.returns
returns c = says_law
