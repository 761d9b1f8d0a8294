use Rattle.std.proofs.Common.{◌≡◌, ◌≤◌, ◌+◌, length, reverse}
use Rattle.data_past.specs.Moves.{pushed_all, delta_at}
use Rattle.data_past.proofs.versions.push_deltas.Given as goal

abbrev pub invariant-loop-delta : goal.invariant-loop-delta
invariant-loop-delta l = record {
  told : pushed_all (delta_at l.number) (reverse l.deltas.items) l.chains.pruned l.chains.versions ≡ pushed_all (delta_at l.fn.number) (reverse l.fn.deltas.items) l.fn.chains.pruned l.fn.chains.versions;
  pruned : l.chains.pruned ≡ l.fn.chains.pruned;
  room : length l.deltas.items ≤ l.chains.room;
  left : l.fn.chains.room + length l.deltas.items ≤ l.chains.room + length l.fn.deltas.items;
}

abbrev pub decreases-loop-delta : goal.decreases-loop-delta
decreases-loop-delta l = goal.left-loop-delta l
