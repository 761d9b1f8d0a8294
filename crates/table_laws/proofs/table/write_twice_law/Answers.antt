use Rattle.table_laws.proofs.Tables.{write_twice}
use Rattle.table_laws.proofs.table.write_twice_law.Goals as goal

pub returns : goal.returns
returns g c = λ R is table key a b. write_twice is.total is.exact table key a b
