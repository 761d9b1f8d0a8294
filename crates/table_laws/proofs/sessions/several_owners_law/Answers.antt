use Rattle.table_laws.proofs.Kept.{stored_back}
use Rattle.table_laws.proofs.sessions.several_owners_law.Goals as goal

pub returns : goal.returns
returns g c = λ R is n kept base stored h sessions are. stored_back is.total is.exact n kept sessions base stored h are
