use Rattle.machine_answers.proofs.Answering.{answered_law}
use Rattle.machine_answers.proofs.answered_law.Goals as goal

pub returns : goal.returns
returns c = answered_law
