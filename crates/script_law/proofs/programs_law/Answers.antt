use Rattle.script_law.proofs.Right.{programs_law}
use Rattle.script_law.proofs.programs_law.Goals as goal

pub returns : goal.returns
returns c = programs_law
