use Rattle.txn_machine.proofs.Marks.{mark_law}
use Rattle.txn_machine.proofs.steps.mark_law.Goals as goal

pub returns : goal.returns
returns c = mark_law
