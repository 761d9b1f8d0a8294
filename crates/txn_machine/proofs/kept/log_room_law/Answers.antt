use Rattle.txn_machine.proofs.LogSteps.{log_room_law}
use Rattle.txn_machine.proofs.kept.log_room_law.Goals as goal

pub returns : goal.returns
returns c = log_room_law
