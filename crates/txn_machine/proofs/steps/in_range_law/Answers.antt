use Rattle.txn_machine.proofs.Fetching.{in_range_law}
use Rattle.txn_machine.proofs.steps.in_range_law.Goals as goal

pub returns : goal.returns
returns c = in_range_law
