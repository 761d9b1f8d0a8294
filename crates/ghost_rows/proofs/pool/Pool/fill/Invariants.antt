use Rattle.std.proofs.Common.{◌-◌, ◌≤◌, length}
use Rattle.std.specs.List.{AllByRecursion}
use Rattle.ghost_rows.specs.Buffers.{IsBuffer}
use Rattle.ghost_rows.proofs.pool.Pool.fill.Given as goal

abbrev pub invariant-loop-alloc : goal.invariant-loop-alloc
invariant-loop-alloc l = record {
  buffers : AllByRecursion IsBuffer l.self-inside.buffers.items;
  more : length l.initial.self-inside.buffers.items ≤ length l.self-inside.buffers.items;
}

abbrev pub decreases-loop-alloc : goal.decreases-loop-alloc
decreases-loop-alloc l = l.many - length l.self-inside.buffers.items
