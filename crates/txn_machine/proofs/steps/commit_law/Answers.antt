use Rattle.txn_machine.proofs.Moving.{commit_law}
use Rattle.txn_machine.proofs.steps.commit_law.Goals as goal

pub returns : goal.returns
returns c = commit_law
