use Rattle.statement_law.proofs.OneSession.{never_blocked_law}
use Rattle.statement_law.proofs.never_blocked_law.Goals as goal

pub returns : goal.returns
returns c = never_blocked_law
