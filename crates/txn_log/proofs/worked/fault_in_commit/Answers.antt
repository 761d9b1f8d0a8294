use Rattle.txn_log.proofs.Shopping.{fault_in_commit}
use Rattle.txn_log.proofs.worked.fault_in_commit.Goals as goal

pub returns : goal.returns
returns c = fault_in_commit
