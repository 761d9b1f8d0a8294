use Rattle.record_worlds.specs.Pages.{HoldsPages}
use Rattle.record_worlds.proofs.Going.{opened_tied}
use Rattle.record_worlds.proofs.laws.opened_law.Goals as goal

pub returns : goal.returns
returns c = λ p was opening rs holds carried flushed waiting. opened_tied p was opening HoldsPages rs holds carried flushed waiting
