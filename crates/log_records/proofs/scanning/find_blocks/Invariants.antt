use Rattle.std.proofs.Common.{◌≡◌, ◌+◌, ◌-◌, ◌≤◌, length, drop, map}
use Rattle.std.specs.List.{AllByRecursion}
use Rattle.log_records.specs.Scan.{with_before, frames, framed}
use Rattle.log_records.proofs.scanning.find_blocks.Given as goal

abbrev pub invariant-loop : goal.invariant-loop
invariant-loop l = record {
  inside : AllByRecursion (λ p. p.0 + p.1 ≤ length l.area) l.found.items;
  within : l.place ≤ length l.area;
  steps : with_before (map (framed l.area) l.found.items) (frames (length l.area - l.counter) l.place (drop l.place l.area)) ≡ frames (length l.area) 0 l.area;
}
