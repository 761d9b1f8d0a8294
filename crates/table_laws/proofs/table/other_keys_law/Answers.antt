use Rattle.table_laws.proofs.Tables.{get-write_other}
use Rattle.table_laws.proofs.table.other_keys_law.Goals as goal

pub returns : goal.returns
returns g c = λ R is table key other row n. get-write_other is.total is.exact table key row other n
