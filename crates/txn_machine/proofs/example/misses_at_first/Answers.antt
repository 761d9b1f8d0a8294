use Rattle.txn_machine.proofs.Missing.{misses_at_first}
use Rattle.txn_machine.proofs.example.misses_at_first.Goals as goal

pub returns : goal.returns
returns c = misses_at_first
