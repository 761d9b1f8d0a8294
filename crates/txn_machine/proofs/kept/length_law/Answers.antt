use Rattle.txn_machine.proofs.Lengths.{length_law}
use Rattle.txn_machine.proofs.kept.length_law.Goals as goal

pub returns : goal.returns
returns c = length_law
