use Rattle.std.proofs.Common.{◌≡◌, ◌++◌, drop}
use Rattle.iv_meaning.specs.Query.{values_at}
use Rattle.row_eval.specs.Seen.{rows_of}
use Rattle.view_delta.proofs.contribution.values_of_group.Given as goal

abbrev pub invariant-loop-index : goal.invariant-loop-index
invariant-loop-index l = l.values ++ values_at (drop l.index l.group) (rows_of l.rows) ≡ values_at l.group (rows_of l.rows)
