use Rattle.txn_machine.proofs.Reached.{committed_law}
use Rattle.txn_machine.proofs.steps.committed_law.Goals as goal

pub returns : goal.returns
returns c = committed_law
