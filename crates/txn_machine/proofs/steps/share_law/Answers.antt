use Rattle.txn_machine.proofs.Reached.{share_law}
use Rattle.txn_machine.proofs.steps.share_law.Goals as goal

pub returns : goal.returns
returns c = share_law
