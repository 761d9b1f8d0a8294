use Rattle.std.proofs.Common.{◌≡◌, map, take}
use Rattle.dml_exec.specs.Tasks.{taken_out}
use Rattle.dml_exec.proofs.pending.taken_out.Given as goal

abbrev pub invariant-loop-row : goal.invariant-loop-row
invariant-loop-row l = l.found.items ≡ map (taken_out l.table) (take l.row-index l.rows)
