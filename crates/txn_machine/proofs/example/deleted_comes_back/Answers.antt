use Rattle.txn_machine.proofs.Replays.{deleted_comes_back}
use Rattle.txn_machine.proofs.example.deleted_comes_back.Goals as goal

pub returns : goal.returns
returns c = deleted_comes_back
