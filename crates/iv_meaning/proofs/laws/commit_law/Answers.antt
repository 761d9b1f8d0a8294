use Rattle.iv_meaning.proofs.SerialLemmas.{commit_law}
use Rattle.iv_meaning.proofs.laws.commit_law.Goals as goal

pub returns : goal.returns
returns c = commit_law
