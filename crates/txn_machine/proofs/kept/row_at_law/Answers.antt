use Rattle.txn_machine.proofs.RowsAt.{row_at_law}
use Rattle.txn_machine.proofs.kept.row_at_law.Goals as goal

pub returns : goal.returns
returns c = row_at_law
