use Rattle.table_laws.proofs.Sums.{sum_to_set}
use Rattle.table_laws.proofs.adding.set_sum_law.Goals as goal

pub returns : goal.returns
returns c = sum_to_set
