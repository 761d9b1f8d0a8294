use Rattle.txn_log.proofs.Differing.{wrong_view}
use Rattle.txn_log.proofs.refusals.wrong_view_law.Goals as goal

pub returns : goal.returns
returns c = wrong_view
