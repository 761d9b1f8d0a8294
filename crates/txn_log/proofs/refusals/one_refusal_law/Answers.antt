use Rattle.txn_log.proofs.Printed.{one_statement}
use Rattle.txn_log.proofs.Refusing.{ordered}
use Rattle.txn_log.proofs.refusals.one_refusal_law.Goals as goal

pub returns : goal.returns
returns c = λ i one other h k. ordered one_statement i one other h k
