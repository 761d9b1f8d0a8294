use Rattle.txn_machine.proofs.Apart.{blocked_law}
use Rattle.txn_machine.proofs.steps.blocked_law.Goals as goal

pub returns : goal.returns
returns c = blocked_law
