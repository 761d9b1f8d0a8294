use Rattle.txn_log.proofs.Repeating.{repeats}
use Rattle.txn_log.proofs.crashes.repeat_law.Goals as goal

pub returns : goal.returns
returns c = repeats
