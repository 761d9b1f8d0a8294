use Rattle.query_laws.proofs.Rising.{between_rising}
use Rattle.query_laws.proofs.rows.between_law.Goals as goal

pub returns : goal.returns
returns c = between_rising
