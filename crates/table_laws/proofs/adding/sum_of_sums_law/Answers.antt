use Rattle.table_laws.proofs.Sums.{sum_to_swapped}
use Rattle.table_laws.proofs.adding.sum_of_sums_law.Goals as goal

pub returns : goal.returns
returns c = sum_to_swapped
