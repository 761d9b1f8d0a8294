use Rattle.txn_machine.proofs.Filling.{log_fills_up}
use Rattle.txn_machine.proofs.example.log_fills_up.Goals as goal

pub returns : goal.returns
returns c = log_fills_up
