use Rattle.txn_machine.proofs.Moving.{any_subset_law}
use Rattle.txn_machine.proofs.steps.any_subset_law.Goals as goal

pub returns : goal.returns
returns c = any_subset_law
