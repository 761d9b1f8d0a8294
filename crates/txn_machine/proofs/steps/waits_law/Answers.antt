use Rattle.txn_machine.proofs.Rings.{waits_law}
use Rattle.txn_machine.proofs.steps.waits_law.Goals as goal

pub returns : goal.returns
returns c = waits_law
