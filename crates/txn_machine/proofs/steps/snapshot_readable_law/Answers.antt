use Rattle.txn_machine.proofs.Peeking.{snapshot_readable_law}
use Rattle.txn_machine.proofs.steps.snapshot_readable_law.Goals as goal

pub returns : goal.returns
returns c = snapshot_readable_law
