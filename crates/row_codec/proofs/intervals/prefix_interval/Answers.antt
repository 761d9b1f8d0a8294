use Rattle.std.proofs.Common.{◌≡◌, ◌∙◌, ap}
use Rattle.iv_types.specs.Intervals.{next}
use Rattle.row_codec.proofs.RangeLaws.{begun}
use Rattle.row_codec.proofs.intervals.prefix_interval.Goals as goal

pub returns-clause-begun : goal.returns-clause-begun
returns-clause-begun c k bytes =
    let low : c.in_ok-low.low ≡ c.args.prefix.now = c.in_ok-low.ensures ∙ c.as_slice.ensures in
    let high : c.in_ok-high.high ≡ next c.args.prefix.now = c.in_ok-high.ensures ∙ ap next c.as_slice-2.ensures in
    rw (low, high) (begun c.args.prefix.now k bytes)
