use Rattle.table_laws.proofs.Tables.{get-write_same}
use Rattle.table_laws.proofs.table.write_law.Goals as goal

pub returns : goal.returns
returns g c = λ R is table key row. get-write_same is.total is.exact table key row
