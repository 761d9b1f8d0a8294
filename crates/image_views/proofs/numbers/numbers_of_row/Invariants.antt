use Rattle.std.proofs.Common.{◌≡◌, ◌++◌, ◌∷◌, drop}
use Rattle.image_views.proofs.numbers.numbers_of_row.Given as goal

abbrev pub invariant-loop-index : goal.invariant-loop-index
invariant-loop-index l = l.numbers ++ drop l.index l.sums ≡ l.row.count ∷ l.row.sums
