use Rattle.txn_machine.proofs.Missing.{later_misses}
use Rattle.txn_machine.proofs.example.later_misses.Goals as goal

pub returns : goal.returns
returns c = later_misses
