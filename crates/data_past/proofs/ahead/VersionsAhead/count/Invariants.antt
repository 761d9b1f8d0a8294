use Rattle.std.proofs.Common.{◌≡◌, ◌≤◌, ◌*◌, ◌^◌, take}
use Rattle.data_past.specs.Ahead.{all_rows, all_deltas}
use Rattle.data_past.proofs.ahead.VersionsAhead.count.Given as goal

abbrev pub invariant-loop-versions : goal.invariant-loop-versions
invariant-loop-versions l = record {
  rows : l.rows ≡ all_rows (take l.versions-index l.self);
  deltas : l.deltas ≡ all_deltas (take l.versions-index l.self);
  few_rows : l.rows ≤ l.versions-index * 2 ^ 20;
  few_deltas : l.deltas ≤ l.versions-index * 2 ^ 20;
}
