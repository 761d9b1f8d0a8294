use Rattle.txn_machine.proofs.Apart.{can_commit_law}
use Rattle.txn_machine.proofs.steps.can_commit_law.Goals as goal

pub returns : goal.returns
returns c = can_commit_law
