use Rattle.txn_machine.proofs.Ranging.{range_law}
use Rattle.txn_machine.proofs.views.range_law.Goals as goal

pub returns : goal.returns
returns c = range_law
