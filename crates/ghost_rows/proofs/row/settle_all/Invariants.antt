use Rattle.escrow_bounds.specs.Column.{settled}
use Rattle.ghost_rows.proofs.Steps.{Halfway}
use Rattle.ghost_rows.proofs.row.settle_all.Given as goal

abbrev pub invariant-loop-index : goal.invariant-loop-index
invariant-loop-index l = Halfway l.index (λ i c. settled c l.session) l.initial.columns l.columns
