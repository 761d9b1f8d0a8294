use Rattle.script_law.proofs.OverMachine.{machine_law}
use Rattle.script_law.proofs.machine_law.Goals as goal

pub returns : goal.returns
returns c = machine_law
