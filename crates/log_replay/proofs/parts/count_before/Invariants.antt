-- All so far stand before the redo place.
use Rattle.std.specs.Prelude.{◌≡◌, ◌+◌, drop}
use Rattle.log_replay.specs.Told.{count_before}
use Rattle.log_replay.proofs.parts.count_before.Given as goal

abbrev pub invariant-loop-scanned : goal.invariant-loop-scanned
invariant-loop-scanned l = record {
  count : l.count ≡ l.scanned-index;
  rest : l.count + count_before l.redo (drop l.scanned-index l.records) ≡ count_before l.redo l.records;
}
