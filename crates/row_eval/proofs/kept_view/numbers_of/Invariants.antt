use Rattle.std.proofs.Common.{◌≡◌, ◌++◌, drop, map, Some}
use Rattle.iv_meaning.specs.Grouping.{number_in}
use Rattle.row_eval.proofs.kept_view.numbers_of.Given as goal

abbrev pub invariant-loop-index : goal.invariant-loop-index
invariant-loop-index l = l.numbers ++ map (λ value. number_in (Some value)) (drop l.index l.values) ≡ map (λ value. number_in (Some value)) l.values
