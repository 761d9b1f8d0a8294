use Rattle.table_laws.proofs.Tables.{total-write}
use Rattle.table_laws.proofs.table.total_law.Goals as goal

pub returns : goal.returns
returns g c = λ R is f table key row. total-write is.total is.exact f table key row
