use Rattle.txn_machine.proofs.PaidSums.{prefix_law}
use Rattle.txn_machine.proofs.kept.prefix_law.Goals as goal

pub returns : goal.returns
returns c = prefix_law
