use Rattle.session_table.proofs.Removing.{as_told}
use Rattle.session_table.proofs.cleaning.clean_one.Goals as goal

pub returns : goal.returns
returns g c = λ s st. as_told s _ _ _ c.cleaned.ensures (c.own_step.ensures s st)
