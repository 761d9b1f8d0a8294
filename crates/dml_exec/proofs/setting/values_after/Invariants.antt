use Rattle.std.proofs.Common.{◌≡◌, drop, map}
use Rattle.iv_meaning.specs.Grouping.{all_of}
use Rattle.iv_meaning.specs.Bound.{set_tree}
use Rattle.iv_meaning.specs.Statement.{columns_after}
use Rattle.row_eval.proofs.Collecting.{behind}
use Rattle.dml_exec.proofs.setting.values_after.Given as goal

abbrev pub invariant-loop-place : goal.invariant-loop-place
invariant-loop-place l =
    behind l.after (columns_after (map set_tree l.sets) l.row (drop l.place l.kinds) l.place (drop l.place l.values)) ≡ all_of (columns_after (map set_tree l.sets) l.row l.kinds 0 l.row)
