use Rattle.std.proofs.Common.{◌≡◌, ◌++◌, drop, map}
use Rattle.iv_meaning.specs.Values.{value_at}
use Rattle.iv_meaning.specs.Grouping.{number_in}
use Rattle.row_eval.specs.Seen.{rows_of}
use Rattle.view_delta.proofs.contribution.sums_of.Given as goal

abbrev pub invariant-loop-index : goal.invariant-loop-index
invariant-loop-index l =
    l.numbers ++ map (λ column. number_in (value_at (rows_of l.rows) column)) (drop l.index l.sums) ≡ map (λ column. number_in (value_at (rows_of l.rows) column)) l.sums
