use Rattle.txn_machine.proofs.Stories.{replies_law}
use Rattle.txn_machine.proofs.steps.replies_law.Goals as goal

pub returns : goal.returns
returns c = replies_law
