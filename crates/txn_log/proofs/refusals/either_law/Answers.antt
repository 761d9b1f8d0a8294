use Rattle.txn_log.proofs.Refusing.{either}
use Rattle.txn_log.proofs.refusals.either_law.Goals as goal

pub returns : goal.returns
returns c = either
