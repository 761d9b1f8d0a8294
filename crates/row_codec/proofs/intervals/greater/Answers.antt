use Rattle.std.proofs.Common.{◌≡◌, true}
use Rattle.row_codec.proofs.RangeLaws.{greater_is_a, greater_is_b}
use Rattle.row_codec.proofs.intervals.greater.Goals as goal

pub returns-then-is_below : goal.returns-then-is_below
returns-then-is_below c = greater_is_b c.args.a.now c.args.b.now (c.is_below.ensures.0 c.if-is_below.true)

pub returns-else-is_below : goal.returns-else-is_below
returns-else-is_below c = greater_is_a c.args.a.now c.args.b.now (λ h. let e : c.is_below.result ≡ true = c.is_below.ensures.1 h in absurd (cc (e, c.if-is_below.false)))
