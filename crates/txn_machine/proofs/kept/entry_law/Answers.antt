use Rattle.txn_machine.proofs.Lengths.{entry_law}
use Rattle.txn_machine.proofs.kept.entry_law.Goals as goal

pub returns : goal.returns
returns c = entry_law
