use Rattle.std.proofs.Common.{◌≡◌, ◌++◌, drop, map}
use Rattle.iv_meaning.specs.Objects.{schema_of, view_tree}
use Rattle.row_eval.specs.Fresh.{view_row}
use Rattle.row_eval.proofs.kept_view.kept_rows.Given as goal

abbrev pub invariant-loop-index : goal.invariant-loop-index
invariant-loop-index l =
    l.found ++ map (view_row (schema_of l.catalog) (view_tree l.view)) (drop l.index l.rows) ≡ map (view_row (schema_of l.catalog) (view_tree l.view)) l.rows
