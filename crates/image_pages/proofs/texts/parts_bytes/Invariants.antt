-- What is counted, and what the parts that are left count, is what all count.
use Rattle.std.proofs.Common.{◌≡◌, ◌+◌, ◌-◌, ◌^◌, ◌≤◌, drop, min}
use Rattle.image_entries.specs.Parts.{parts_found}
use Rattle.image_pages.specs.Pages.{found_bytes}
use Rattle.image_pages.proofs.texts.parts_bytes.Given as goal

abbrev pub invariant-loop-part : goal.invariant-loop-part
invariant-loop-part l = record {
  told : min (l.bytes + found_bytes (parts_found (drop l.part-index l.parts))) (2 ^ 64 - 1) ≡ min (found_bytes (parts_found l.parts)) (2 ^ 64 - 1);
  low : l.bytes ≤ 2 ^ 64 - 1;
}
