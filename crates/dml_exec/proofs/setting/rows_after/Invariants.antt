use Rattle.std.proofs.Common.{◌≡◌, drop, map}
use Rattle.iv_meaning.specs.Grouping.{all_of}
use Rattle.iv_meaning.specs.Bound.{set_tree}
use Rattle.iv_meaning.specs.Statement.{row_after}
use Rattle.row_eval.proofs.Collecting.{behind}
use Rattle.dml_exec.proofs.setting.rows_after.Given as goal

abbrev pub invariant-loop-index : goal.invariant-loop-index
invariant-loop-index l = behind l.after (map (row_after l.table (map set_tree l.sets)) (drop l.index l.rows)) ≡ all_of (map (row_after l.table (map set_tree l.sets)) l.rows)
