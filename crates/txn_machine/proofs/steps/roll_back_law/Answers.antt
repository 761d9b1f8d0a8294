use Rattle.txn_machine.proofs.Apart.{roll_back_law}
use Rattle.txn_machine.proofs.steps.roll_back_law.Goals as goal

pub returns : goal.returns
returns c = roll_back_law
