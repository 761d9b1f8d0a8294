use Rattle.std.proofs.Common.{◌≡◌, ◌++◌, map, filter, drop}
use Rattle.iv_meaning.specs.Statement.{pairs, is_changed}
use Rattle.dml_exec.specs.Tasks.{set_in}
use Rattle.dml_exec.proofs.pending.set_in.Given as goal

abbrev pub invariant-loop-row : goal.invariant-loop-row
invariant-loop-row l =
    l.found.items ++ map (set_in l.table) (filter is_changed (pairs (drop l.row-index l.rows) l.after.items)) ≡ map (set_in l.table) (filter is_changed (pairs l.rows l.fn.after))
