use Rattle.txn_machine.proofs.Reached.{absent_law}
use Rattle.txn_machine.proofs.steps.absent_law.Goals as goal

pub returns : goal.returns
returns c = absent_law
