use Rattle.txn_log.proofs.Once.{reading_once}
use Rattle.txn_log.proofs.Printed.{prints_again, one_statement}
use Rattle.txn_log.proofs.Settling.{all_committed}
use Rattle.txn_log.proofs.crashes.committed_law.Goals as goal

pub returns : goal.returns
returns c = all_committed prints_again (reading_once one_statement)
