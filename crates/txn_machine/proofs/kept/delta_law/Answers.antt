use Rattle.txn_machine.proofs.Shapes.{delta_law}
use Rattle.txn_machine.proofs.kept.delta_law.Goals as goal

pub returns : goal.returns
returns c = delta_law
