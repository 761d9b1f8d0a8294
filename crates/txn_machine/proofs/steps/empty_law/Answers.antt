use Rattle.txn_machine.proofs.Beginning.{empty_law}
use Rattle.txn_machine.proofs.steps.empty_law.Goals as goal

pub returns : goal.returns
returns c = empty_law
