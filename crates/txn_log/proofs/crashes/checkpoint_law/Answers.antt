use Rattle.txn_log.proofs.Lifting.{carries}
use Rattle.txn_log.proofs.Printed.{prints_again}
use Rattle.txn_log.proofs.crashes.checkpoint_law.Goals as goal

pub returns : goal.returns
returns c = carries prints_again
