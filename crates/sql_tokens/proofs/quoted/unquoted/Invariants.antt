use Rattle.std.proofs.Common.{length, drop, ◌-◌, ◌≡◌, ◌≤◌, []}
use Rattle.iv_types.specs.Tokens.{quoted}
use Rattle.sql_tokens.proofs.Quotes.{content_onto}
use Rattle.sql_tokens.proofs.quoted.unquoted.Given as goal

abbrev pub invariant-loop-size : goal.invariant-loop-size
invariant-loop-size l = record {
  same : content_onto l.content.items (quoted (drop l.size l.bytes)) ≡ content_onto [] (quoted l.bytes);
  within : l.size ≤ length l.bytes;
}

abbrev pub decreases-loop-size : goal.decreases-loop-size
decreases-loop-size l = length l.bytes - l.size
