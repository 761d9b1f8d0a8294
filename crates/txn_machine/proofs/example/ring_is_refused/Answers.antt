use Rattle.txn_machine.proofs.Replays.{ring_is_refused}
use Rattle.txn_machine.proofs.example.ring_is_refused.Goals as goal

pub returns : goal.returns
returns c = ring_is_refused
