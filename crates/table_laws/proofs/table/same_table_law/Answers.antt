use Rattle.table_laws.proofs.Tables.{same_table}
use Rattle.table_laws.proofs.table.same_table_law.Goals as goal

pub returns : goal.returns
returns g c = λ R is a b h. same_table is.total is.exact a b h
