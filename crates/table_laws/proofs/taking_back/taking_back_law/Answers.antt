use Rattle.table_laws.proofs.Kept.{back_redo}
use Rattle.table_laws.proofs.taking_back.taking_back_law.Goals as goal

pub returns : goal.returns
returns g c = λ R is base changes told. back_redo is.total is.exact changes base told
