use Rattle.std.proofs.Common.{◌≡◌, ◌+◌, ◌-◌, length}
use Rattle.log_records.specs.Scan.{with_before, records}
use Rattle.log_records.proofs.scanning.read_block.Given as goal

abbrev pub invariant-loop : goal.invariant-loop
invariant-loop l = record {
  ends : l.at + length l.rest ≡ l.place + length l.block;
  steps : with_before l.out.items (records (length l.block - l.counter) l.at l.rest) ≡ with_before l.fn.out.items (records (length l.block) l.place l.block);
}
