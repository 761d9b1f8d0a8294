use Rattle.txn_machine.proofs.Seats.{seat_law}
use Rattle.txn_machine.proofs.kept.seat_law.Goals as goal

pub returns : goal.returns
returns c = seat_law
