use Rattle.txn_log.proofs.Staying.{opens_within}
use Rattle.txn_log.proofs.pages.opens_within_law.Goals as goal

pub returns : goal.returns
returns c = opens_within
