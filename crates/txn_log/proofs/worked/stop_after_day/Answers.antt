use Rattle.txn_log.proofs.Trading.{stop_after_day}
use Rattle.txn_log.proofs.worked.stop_after_day.Goals as goal

pub returns : goal.returns
returns c = stop_after_day
