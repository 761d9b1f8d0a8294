use Rattle.txn_log.proofs.Lasting.{within_always}
use Rattle.txn_log.proofs.Once.{reading_once}
use Rattle.txn_log.proofs.Printed.{one_statement, prints_again}
use Rattle.txn_log.proofs.refusals.within_always_law.Goals as goal

pub returns : goal.returns
returns c = within_always prints_again (reading_once one_statement)
