use Rattle.txn_machine.proofs.Sharing.{fresh_law}
use Rattle.txn_machine.proofs.views.fresh_law.Goals as goal

pub returns : goal.returns
returns c = fresh_law
