use Rattle.std.proofs.Common.{length, drop, ◌-◌, ◌≡◌, ◌≤◌}
use Rattle.iv_types.specs.Tokens.{quoted}
use Rattle.sql_tokens.specs.Scan.{measure_of}
use Rattle.sql_tokens.proofs.Quotes.{measure_onto}
use Rattle.sql_tokens.proofs.quoted.measure.Given as goal

abbrev pub invariant-loop-size : goal.invariant-loop-size
invariant-loop-size l = record {
  same : measure_onto l.long l.size (quoted (drop l.size l.bytes)) ≡ measure_of (quoted l.bytes);
  short : l.long ≤ l.size;
  within : l.size ≤ length l.bytes;
}

abbrev pub decreases-loop-size : goal.decreases-loop-size
decreases-loop-size l = length l.bytes - l.size
