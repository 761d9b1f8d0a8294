use Rattle.txn_log.proofs.Shopping.{stop_in_commit}
use Rattle.txn_log.proofs.worked.stop_in_commit.Goals as goal

pub returns : goal.returns
returns c = stop_in_commit
