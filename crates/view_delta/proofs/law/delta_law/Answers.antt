use Rattle.view_delta.proofs.Weighing.{delta_law_holds}
use Rattle.view_delta.proofs.law.delta_law.Goals as goal

pub returns : goal.returns
returns c = delta_law_holds
