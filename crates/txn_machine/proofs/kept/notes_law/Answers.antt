use Rattle.txn_machine.proofs.Standing.{notes_law}
use Rattle.txn_machine.proofs.kept.notes_law.Goals as goal

pub returns : goal.returns
returns c = notes_law
