use Rattle.table_laws.proofs.Stored.{own_row}
use Rattle.table_laws.proofs.sessions.own_row_law.Goals as goal

pub returns : goal.returns
returns g c = λ R is n kept base stored h s one key alone. own_row is.total is.exact n kept base stored h s one key alone
