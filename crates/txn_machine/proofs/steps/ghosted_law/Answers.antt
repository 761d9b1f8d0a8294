use Rattle.txn_machine.proofs.Parting.{ghosted_law}
use Rattle.txn_machine.proofs.steps.ghosted_law.Goals as goal

pub returns : goal.returns
returns c = ghosted_law
