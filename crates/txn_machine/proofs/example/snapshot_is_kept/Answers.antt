use Rattle.txn_machine.proofs.Replays.{snapshot_is_kept}
use Rattle.txn_machine.proofs.example.snapshot_is_kept.Goals as goal

pub returns : goal.returns
returns c = snapshot_is_kept
