use Rattle.table_laws.proofs.Stored.{total_stored}
use Rattle.table_laws.proofs.sessions.stored_total_law.Goals as goal

pub returns : goal.returns
returns g c = λ R is f n kept base stored h. total_stored is.total is.exact f n kept base stored h
