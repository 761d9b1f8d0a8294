use Rattle.record_worlds.specs.Pages.{HoldsPages}
use Rattle.record_worlds.proofs.Stopping.{cut_recovers}
use Rattle.record_worlds.proofs.laws.cut_law.Goals as goal

pub returns : goal.returns
returns c = λ p was opening s rs is. cut_recovers p was opening HoldsPages s rs is
