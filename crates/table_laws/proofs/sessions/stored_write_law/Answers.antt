use Rattle.table_laws.proofs.Stored.{stored_write}
use Rattle.table_laws.proofs.sessions.stored_write_law.Goals as goal

pub returns : goal.returns
returns g c = λ R is n kept base stored h s one key row alone. stored_write is.total is.exact n kept base stored h s one key row alone
