use Rattle.std.proofs.Common.{◌≡◌, drop, map}
use Rattle.iv_meaning.specs.Bound.{set_tree}
use Rattle.iv_meaning.specs.Statement.{column_after}
use Rattle.dml_exec.proofs.setting.value_after.Given as goal

abbrev pub invariant-loop-set : goal.invariant-loop-set
invariant-loop-set l = column_after (map set_tree (drop l.set-index l.sets)) l.row l.kind l.column l.old ≡ column_after (map set_tree l.sets) l.row l.kind l.column l.old
