use Rattle.table_laws.proofs.Tables.{write_apart}
use Rattle.table_laws.proofs.table.writes_apart_law.Goals as goal

pub returns : goal.returns
returns g c = λ R is table k l a b n. write_apart is.total is.exact table k l a b n
