-- What is counted, and what the texts of the records that are left count, is what all count.
use Rattle.std.proofs.Common.{◌≡◌, ◌+◌, ◌-◌, ◌^◌, ◌≤◌, drop, min}
use Rattle.record_replay.specs.Texts.{texts_entries}
use Rattle.image_opening.proofs.bytes.texts_bytes.Given as goal

abbrev pub invariant-loop-scanned : goal.invariant-loop-scanned
invariant-loop-scanned l = record {
  told : min (l.bytes + texts_entries (drop l.scanned-index l.records)) (2 ^ 64 - 1) ≡ min (texts_entries l.records) (2 ^ 64 - 1);
  low : l.bytes ≤ 2 ^ 64 - 1;
}
