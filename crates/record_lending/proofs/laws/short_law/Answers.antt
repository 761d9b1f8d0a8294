use Rattle.record_lending.proofs.Short.{short_law}
use Rattle.record_lending.proofs.laws.short_law.Goals as goal

pub returns : goal.returns
returns c = short_law
