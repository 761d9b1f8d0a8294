use Rattle.txn_log.proofs.Living.{stops}
use Rattle.txn_log.proofs.crashes.stop_law.Goals as goal

pub returns : goal.returns
returns c = stops
