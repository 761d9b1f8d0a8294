use Rattle.query_laws.proofs.Widths.{width_law}
use Rattle.query_laws.proofs.limited.width_law.Goals as goal

pub returns : goal.returns
returns c = width_law
