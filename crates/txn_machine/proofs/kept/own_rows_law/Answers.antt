use Rattle.txn_machine.proofs.OwnRows.{own_rows_law}
use Rattle.txn_machine.proofs.kept.own_rows_law.Goals as goal

pub returns : goal.returns
returns c = own_rows_law
