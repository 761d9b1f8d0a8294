use Rattle.txn_machine.proofs.Marks.{rows_at_law}
use Rattle.txn_machine.proofs.steps.rows_at_law.Goals as goal

pub returns : goal.returns
returns c = rows_at_law
