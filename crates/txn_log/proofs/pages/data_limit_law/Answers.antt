use Rattle.txn_log.proofs.Staying.{data_limit}
use Rattle.txn_log.proofs.pages.data_limit_law.Goals as goal

pub returns : goal.returns
returns c = data_limit
