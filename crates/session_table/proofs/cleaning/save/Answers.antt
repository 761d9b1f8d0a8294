use Rattle.session_table.proofs.Removing.{as_told}
use Rattle.session_table.proofs.cleaning.save.Goals as goal

pub returns : goal.returns
returns g c = λ s st. as_told s _ _ _ c.saved.ensures (c.own_step.ensures s st)
