use Rattle.table_laws.proofs.Stored.{stored_undo}
use Rattle.table_laws.proofs.sessions.stored_undo_law.Goals as goal

pub returns : goal.returns
returns g c = λ R is n kept base stored h s one latest earlier e.
    stored_undo is.total is.exact n kept base stored h s one latest earlier e
