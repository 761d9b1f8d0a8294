use Rattle.std.proofs.Common.{get_or}
use Rattle.escrow_bounds.specs.Column.{with_part, none}
use Rattle.ghost_rows.proofs.Steps.{Halfway}
use Rattle.ghost_rows.proofs.row.take_back_all.Given as goal

abbrev pub invariant-loop-index : goal.invariant-loop-index
invariant-loop-index l = Halfway l.index (λ i c. with_part c l.session (get_or l.before i none)) l.initial.columns l.columns
