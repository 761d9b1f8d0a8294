use Rattle.table_laws.proofs.Stored.{stored_commit}
use Rattle.table_laws.proofs.sessions.stored_commit_law.Goals as goal

pub returns : goal.returns
returns g c = λ R is n kept base stored h s one. stored_commit is.total is.exact n kept base stored h s one
