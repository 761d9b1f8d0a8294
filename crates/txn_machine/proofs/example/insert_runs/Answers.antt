use Rattle.txn_machine.proofs.Replays.{insert_runs}
use Rattle.txn_machine.proofs.example.insert_runs.Goals as goal

pub returns : goal.returns
returns c = insert_runs
