use Rattle.txn_machine.proofs.Marks.{snapshot_law}
use Rattle.txn_machine.proofs.steps.snapshot_law.Goals as goal

pub returns : goal.returns
returns c = snapshot_law
