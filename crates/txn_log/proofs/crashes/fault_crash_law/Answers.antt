use Rattle.txn_log.proofs.Printed.{one_statement, prints_again}
use Rattle.txn_log.proofs.Once.{reading_once}
use Rattle.txn_log.proofs.Passing.{fault_crash}
use Rattle.txn_log.proofs.crashes.fault_crash_law.Goals as goal

pub returns : goal.returns
returns c = fault_crash prints_again (reading_once one_statement)
