use Rattle.txn_machine.proofs.Shapes.{stored_row_law}
use Rattle.txn_machine.proofs.kept.stored_row_law.Goals as goal

pub returns : goal.returns
returns c = stored_row_law
