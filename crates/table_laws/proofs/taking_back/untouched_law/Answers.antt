use Rattle.table_laws.proofs.Kept.{redo_untouched, back_untouched}
use Rattle.table_laws.proofs.taking_back.untouched_law.Goals as goal

pub returns : goal.returns
returns g c = λ R is base changes key n.
    (redo_untouched is.total is.exact key changes base n, back_untouched is.total is.exact key changes base n)
