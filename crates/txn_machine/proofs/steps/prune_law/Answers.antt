use Rattle.txn_machine.proofs.Marks.{prune_law}
use Rattle.txn_machine.proofs.steps.prune_law.Goals as goal

pub returns : goal.returns
returns c = prune_law
