use Rattle.txn_machine.proofs.OwnRows.{told_law}
use Rattle.txn_machine.proofs.kept.told_law.Goals as goal

pub returns : goal.returns
returns c = told_law
