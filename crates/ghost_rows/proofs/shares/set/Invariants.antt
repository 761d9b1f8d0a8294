use Rattle.ghost_rows.specs.Shares.{updated}
use Rattle.ghost_rows.proofs.Steps.{Halfway}
use Rattle.ghost_rows.proofs.shares.set.Given as goal

abbrev pub invariant-loop-index : goal.invariant-loop-index
invariant-loop-index l = Halfway l.index (λ i s. updated l.new.session l.new.sum s) l.initial.shares l.shares
