use Rattle.txn_log.proofs.Happening.{crash}
use Rattle.txn_log.proofs.Printed.{prints_again}
use Rattle.txn_log.proofs.crashes.crash_law.Goals as goal

pub returns : goal.returns
returns c = crash prints_again
