use Rattle.table_laws.proofs.Sums.{sum_to_at_most}
use Rattle.table_laws.proofs.adding.sum_at_most_law.Goals as goal

pub returns : goal.returns
returns c = sum_to_at_most
