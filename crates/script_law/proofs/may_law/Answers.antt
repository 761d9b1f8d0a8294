use Rattle.script_law.proofs.Asking.{may_law}
use Rattle.script_law.proofs.may_law.Goals as goal

pub returns : goal.returns
returns c = may_law
