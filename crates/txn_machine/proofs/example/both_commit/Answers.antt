use Rattle.txn_machine.proofs.Replays.{both_commit}
use Rattle.txn_machine.proofs.example.both_commit.Goals as goal

pub returns : goal.returns
returns c = both_commit
