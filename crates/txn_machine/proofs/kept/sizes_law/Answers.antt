use Rattle.txn_machine.proofs.Sizes.{sizes_law}
use Rattle.txn_machine.proofs.kept.sizes_law.Goals as goal

pub returns : goal.returns
returns c = sizes_law
