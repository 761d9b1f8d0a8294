use Rattle.table_laws.proofs.Tables.{sum_of_where}
use Rattle.table_laws.proofs.table.total_where_law.Goals as goal

pub returns : goal.returns
returns g c = λ f test rows. sum_of_where f test rows
