use Rattle.std.proofs.Common.{◌≡◌, ◌≤◌, ◌+◌, length, reverse}
use Rattle.data_past.specs.Moves.{pushed_all, version_at}
use Rattle.data_past.proofs.versions.push_rows.Given as goal

abbrev pub invariant-loop-version : goal.invariant-loop-version
invariant-loop-version l = record {
  told : pushed_all (version_at l.number) (reverse l.versions.items) l.chains.pruned l.chains.versions ≡ pushed_all (version_at l.fn.number) (reverse l.fn.versions.items) l.fn.chains.pruned l.fn.chains.versions;
  pruned : l.chains.pruned ≡ l.fn.chains.pruned;
  room : length l.versions.items ≤ l.chains.room;
  left : l.fn.chains.room + length l.versions.items ≤ l.chains.room + length l.fn.versions.items;
}

abbrev pub decreases-loop-version : goal.decreases-loop-version
decreases-loop-version l = goal.left-loop-version l
