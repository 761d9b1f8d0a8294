use Rattle.txn_machine.proofs.Peeking.{peek_law}
use Rattle.txn_machine.proofs.steps.peek_law.Goals as goal

pub returns : goal.returns
returns c = peek_law
