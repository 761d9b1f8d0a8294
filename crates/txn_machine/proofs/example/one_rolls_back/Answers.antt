use Rattle.txn_machine.proofs.Replays.{one_rolls_back}
use Rattle.txn_machine.proofs.example.one_rolls_back.Goals as goal

pub returns : goal.returns
returns c = one_rolls_back
