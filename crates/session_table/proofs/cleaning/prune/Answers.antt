use Rattle.session_table.proofs.Removing.{as_told}
use Rattle.session_table.proofs.cleaning.prune.Goals as goal

pub returns : goal.returns
returns g c = λ s st. as_told s _ _ _ c.pruned.ensures (c.own_step.ensures s st)
