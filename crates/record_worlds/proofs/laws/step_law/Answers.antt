use Rattle.record_worlds.specs.Pages.{HoldsPages}
use Rattle.record_worlds.proofs.Going.{step_ties}
use Rattle.record_worlds.proofs.laws.step_law.Goals as goal

pub returns : goal.returns
returns c = λ p was opening s rs is session a said after may does fine. step_ties p was opening HoldsPages s rs is session a said after may does fine
