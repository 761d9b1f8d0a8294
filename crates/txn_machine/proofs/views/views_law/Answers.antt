use Rattle.txn_machine.proofs.Looking.{view_laws}
use Rattle.txn_machine.proofs.views.views_law.Goals as goal

pub returns : goal.returns
returns c = view_laws
