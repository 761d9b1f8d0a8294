use Rattle.txn_machine.proofs.Apart.{deadlock_law}
use Rattle.txn_machine.proofs.steps.deadlock_law.Goals as goal

pub returns : goal.returns
returns c = deadlock_law
