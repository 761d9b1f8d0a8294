use Rattle.std.proofs.Common.{◌≡◌, ◌-◌}
use Rattle.log_records.specs.Reading.{many_at}
use Rattle.log_records.proofs.Many.{with_front}
use Rattle.log_records.proofs.reading.many_of.Given as goal

abbrev pub invariant-loop : goal.invariant-loop
invariant-loop l = with_front l.sums.items (many_at (l.count - l.counter) l.rest) ≡ many_at l.count l.bytes
