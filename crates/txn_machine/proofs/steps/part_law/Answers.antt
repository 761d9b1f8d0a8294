use Rattle.txn_machine.proofs.Parting.{part_law}
use Rattle.txn_machine.proofs.steps.part_law.Goals as goal

pub returns : goal.returns
returns c = part_law
