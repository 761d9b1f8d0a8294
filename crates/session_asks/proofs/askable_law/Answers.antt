use Rattle.session_asks.proofs.Law.{askable_law}
use Rattle.session_asks.proofs.askable_law.Goals as goal

pub returns : goal.returns
returns c = askable_law
