use Rattle.txn_log.proofs.Placing.{undo_place}
use Rattle.txn_log.proofs.refusals.undo_law.Goals as goal

pub returns : goal.returns
returns c = undo_place
