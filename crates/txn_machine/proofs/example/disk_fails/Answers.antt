use Rattle.txn_machine.proofs.Filling.{disk_fails}
use Rattle.txn_machine.proofs.example.disk_fails.Goals as goal

pub returns : goal.returns
returns c = disk_fails
