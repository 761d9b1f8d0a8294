use Rattle.txn_log.proofs.Saving.{stop_after_checkpoint}
use Rattle.txn_log.proofs.worked.stop_after_checkpoint.Goals as goal

pub returns : goal.returns
returns c = stop_after_checkpoint
