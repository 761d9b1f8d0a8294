use Rattle.txn_machine.proofs.Filling.{full_misses}
use Rattle.txn_machine.proofs.example.full_misses.Goals as goal

pub returns : goal.returns
returns c = full_misses
