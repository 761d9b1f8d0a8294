use Rattle.txn_machine.proofs.Reached.{locks_law}
use Rattle.txn_machine.proofs.steps.locks_law.Goals as goal

pub returns : goal.returns
returns c = locks_law
