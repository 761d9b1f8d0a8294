use Rattle.txn_machine.proofs.Refusing.{readable_law}
use Rattle.txn_machine.proofs.views.readable_law.Goals as goal

pub returns : goal.returns
returns c = readable_law
