use Rattle.machine_answers.proofs.OnlyAll.{only_law}
use Rattle.machine_answers.proofs.only_law.Goals as goal

pub returns : goal.returns
returns c = only_law
