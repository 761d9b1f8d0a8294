use Rattle.std.proofs.Common.{◌≡◌, drop, map}
use Rattle.log_records.specs.Scan.{with_before, all_records, framed}
use Rattle.log_records.proofs.scanning.read_all.Given as goal

abbrev pub invariant-loop-block : goal.invariant-loop-block
invariant-loop-block l = with_before l.out.items (all_records (map (framed l.area) (drop l.block-index l.found))) ≡ all_records (map (framed l.area) l.found)
