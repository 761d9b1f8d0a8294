use Rattle.std.proofs.Common.{◌≡◌, drop}
use Rattle.iv_types.specs.Trees.{trees}
use Rattle.iv_meaning.specs.Grouping.{all_of}
use Rattle.iv_meaning.specs.Statement.{tuple_values}
use Rattle.row_eval.proofs.Collecting.{behind}
use Rattle.row_eval.proofs.storing.tuple_row.Given as goal

abbrev pub invariant-loop-place : goal.invariant-loop-place
invariant-loop-place l = behind l.row (tuple_values (drop l.place l.kinds) (trees (drop l.place l.tuple))) ≡ all_of (tuple_values l.kinds (trees l.tuple))
