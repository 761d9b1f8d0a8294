use Rattle.script_law.proofs.Blocking.{hindered_law}
use Rattle.script_law.proofs.hindered_law.Goals as goal

pub returns : goal.returns
returns c = hindered_law
