use Rattle.txn_machine.proofs.Replays.{undo_is_covered}
use Rattle.txn_machine.proofs.example.undo_is_covered.Goals as goal

pub returns : goal.returns
returns c = undo_is_covered
