use Rattle.std.proofs.Common.{◌≡◌, drop, map}
use Rattle.iv_types.specs.Trees.{trees}
use Rattle.iv_types.specs.Encoding.{kinds_of}
use Rattle.iv_meaning.specs.Grouping.{all_of}
use Rattle.iv_meaning.specs.Statement.{tuple_values, tuple_rows}
use Rattle.row_eval.proofs.Collecting.{behind}
use Rattle.row_eval.proofs.storing.tuple_rows.Given as goal

abbrev pub invariant-loop-index : goal.invariant-loop-index
invariant-loop-index l = behind l.rows (map (λ tuple. all_of (tuple_values (kinds_of l.table) tuple)) (map trees (drop l.index l.tuples))) ≡ tuple_rows l.table (map trees l.tuples)
