use Rattle.txn_machine.proofs.KeysApart.{keys_tell}
use Rattle.txn_machine.proofs.views.keys_law.Goals as goal

pub returns : goal.returns
returns c = keys_tell
