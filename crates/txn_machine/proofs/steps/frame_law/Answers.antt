use Rattle.txn_machine.proofs.Moving.{frame_law}
use Rattle.txn_machine.proofs.steps.frame_law.Goals as goal

pub returns : goal.returns
returns c = frame_law
