use Rattle.txn_machine.proofs.Stories.{snapshot_replies_law}
use Rattle.txn_machine.proofs.steps.snapshot_replies_law.Goals as goal

pub returns : goal.returns
returns c = snapshot_replies_law
