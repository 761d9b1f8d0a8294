use Rattle.table_laws.proofs.Tables.{rows_where_same}
use Rattle.table_laws.proofs.table.same_rows_law.Goals as goal

pub returns : goal.returns
returns g c = λ R is test a b h. rows_where_same is.total is.exact test a b h
