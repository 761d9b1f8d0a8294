use Rattle.txn_machine.proofs.Reached.{bounds_law}
use Rattle.txn_machine.proofs.steps.bounds_law.Goals as goal

pub returns : goal.returns
returns c = bounds_law
