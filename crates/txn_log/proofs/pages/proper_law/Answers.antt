use Rattle.txn_log.proofs.Happening.{proper}
use Rattle.txn_log.proofs.Printed.{prints_again}
use Rattle.txn_log.proofs.pages.proper_law.Goals as goal

pub returns : goal.returns
returns c = proper prints_again
