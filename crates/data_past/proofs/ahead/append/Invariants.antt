use Rattle.std.proofs.Common.{◌≡◌, ◌+◌, ◌≤◌, ◌++◌, length, reverse, vec_capacity}
use Rattle.data_past.proofs.ahead.append.Given as goal

abbrev pub invariant-loop-delta : goal.invariant-loop-delta
invariant-loop-delta l = record {
  told : l.deltas.items ++ reverse l.more.items ≡ l.fn.deltas.items ++ l.fn.more.items;
  room : length l.deltas.items + length l.more.items ≤ vec_capacity l.deltas;
}

abbrev pub decreases-loop-delta : goal.decreases-loop-delta
decreases-loop-delta l = length l.more.items
