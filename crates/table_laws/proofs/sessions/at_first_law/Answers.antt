use Rattle.table_laws.proofs.Stored.{stored_at_first}
use Rattle.table_laws.proofs.sessions.at_first_law.Goals as goal

pub returns : goal.returns
returns g c = λ R n base. stored_at_first n base
