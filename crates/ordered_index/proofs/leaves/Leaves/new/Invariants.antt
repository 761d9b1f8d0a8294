use Rattle.std.proofs.Common.{ℕ, ◌≡◌, ◌<◌, ◌≤◌, length, vec_capacity}
use Rattle.ordered_index.specs.Row.{times}
use Rattle.ordered_index.proofs.leaves.Leaves.new.Given as goal

abbrev pub invariant-loop-i : goal.invariant-loop-i
invariant-loop-i l = record {
  free : length l.free.items ≡ l.i;
  once : (p : ℕ) → p < l.i → times p l.free.items ≡ 1;
  beyond : (p : ℕ) → l.i ≤ p → times p l.free.items ≡ 0;
  room : l.number ≤ vec_capacity l.free;
}
