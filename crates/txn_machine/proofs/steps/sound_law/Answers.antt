use Rattle.txn_machine.proofs.Reached.{sound_law}
use Rattle.txn_machine.proofs.steps.sound_law.Goals as goal

pub returns : goal.returns
returns c = sound_law
