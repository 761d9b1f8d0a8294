use Rattle.txn_machine.proofs.Creating.{creates_sound}
use Rattle.txn_machine.proofs.views.create_law.Goals as goal

pub returns : goal.returns
returns c = creates_sound
