use Rattle.txn_log.proofs.Printed.{one_statement}
use Rattle.txn_log.proofs.Refusing.{fine_never}
use Rattle.txn_log.proofs.refusals.never_both_law.Goals as goal

pub returns : goal.returns
returns c = λ i why fine refused. fine_never one_statement i why fine refused
