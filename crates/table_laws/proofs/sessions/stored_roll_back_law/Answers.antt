use Rattle.table_laws.proofs.Stored.{stored_roll_back}
use Rattle.table_laws.proofs.sessions.stored_roll_back_law.Goals as goal

pub returns : goal.returns
returns g c = λ R is n kept base stored h s one. stored_roll_back is.total is.exact n kept base stored h s one
