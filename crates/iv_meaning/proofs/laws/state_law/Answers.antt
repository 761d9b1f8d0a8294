use Rattle.iv_meaning.proofs.SerialLemmas.{state_law}
use Rattle.iv_meaning.proofs.laws.state_law.Goals as goal

pub returns : goal.returns
returns c = state_law
