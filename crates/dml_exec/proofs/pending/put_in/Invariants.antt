use Rattle.std.proofs.Common.{◌≡◌, map}
use Rattle.dml_exec.specs.Tasks.{put_in}
use Rattle.dml_exec.proofs.pending.put_in.Given as goal

abbrev pub invariant-loop-row : goal.invariant-loop-row
invariant-loop-row l = l.found.items ≡ map (put_in l.table) l.yielded
