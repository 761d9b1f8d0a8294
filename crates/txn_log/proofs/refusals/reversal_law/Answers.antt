use Rattle.txn_log.proofs.Placing.{reversal_place}
use Rattle.txn_log.proofs.refusals.reversal_law.Goals as goal

pub returns : goal.returns
returns c = reversal_place
