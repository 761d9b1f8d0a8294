use Rattle.table_laws.proofs.Kept.{total-redo}
use Rattle.table_laws.proofs.taking_back.changed_law.Goals as goal

pub returns : goal.returns
returns g c = λ R is f base changes told. total-redo is.total is.exact f changes base told
