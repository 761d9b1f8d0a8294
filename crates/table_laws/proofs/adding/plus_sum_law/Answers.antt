use Rattle.table_laws.proofs.Sums.{sum_to_plus}
use Rattle.table_laws.proofs.adding.plus_sum_law.Goals as goal

pub returns : goal.returns
returns c = sum_to_plus
