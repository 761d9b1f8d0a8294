use Rattle.table_laws.proofs.Kept.{stored_redone}
use Rattle.table_laws.proofs.sessions.made_again_law.Goals as goal

pub returns : goal.returns
returns g c = λ R is n kept base stored h sessions are. stored_redone is.total is.exact n kept sessions base stored h are
