use Rattle.table_laws.proofs.Tables.{total_same}
use Rattle.table_laws.proofs.table.same_total_law.Goals as goal

pub returns : goal.returns
returns g c = λ R is f h table same. total_same is.total is.exact f h table same
