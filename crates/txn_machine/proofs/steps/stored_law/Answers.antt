use Rattle.txn_machine.proofs.Reached.{stored_law}
use Rattle.txn_machine.proofs.steps.stored_law.Goals as goal

pub returns : goal.returns
returns c = stored_law
