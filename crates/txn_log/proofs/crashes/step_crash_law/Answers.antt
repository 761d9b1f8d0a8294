use Rattle.txn_log.proofs.Printed.{one_statement, prints_again}
use Rattle.txn_log.proofs.Once.{reading_once}
use Rattle.txn_log.proofs.Passing.{step_crash}
use Rattle.txn_log.proofs.crashes.step_crash_law.Goals as goal

pub returns : goal.returns
returns c = step_crash prints_again (reading_once one_statement)
