use Rattle.table_laws.proofs.Tables.{Contains-rows_where}
use Rattle.table_laws.proofs.table.rows_where_law.Goals as goal

pub returns : goal.returns
returns g c = λ R is test table key row. Contains-rows_where is.total is.exact test table key row
