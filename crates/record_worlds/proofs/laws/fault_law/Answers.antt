use Rattle.record_worlds.specs.Pages.{HoldsPages}
use Rattle.record_worlds.proofs.Stopping.{fault_recovers}
use Rattle.record_worlds.proofs.laws.fault_law.Goals as goal

pub returns : goal.returns
returns c = λ p was opening s rs is session a stopped may does x have. fault_recovers p was opening HoldsPages s rs is session a stopped may does x have
