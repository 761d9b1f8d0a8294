use Rattle.iv_meaning.proofs.SessionLemmas.{session_law}
use Rattle.iv_meaning.proofs.laws.session_law.Goals as goal

pub returns : goal.returns
returns c = session_law
