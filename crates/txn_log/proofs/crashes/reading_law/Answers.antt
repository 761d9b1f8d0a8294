use Rattle.txn_log.proofs.Once.{reading_once}
use Rattle.txn_log.proofs.Printed.{one_statement}
use Rattle.txn_log.proofs.crashes.reading_law.Goals as goal

pub returns : goal.returns
returns c = reading_once one_statement
