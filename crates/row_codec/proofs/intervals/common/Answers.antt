use Rattle.std.proofs.Common.{◌≡◌, List, ℕ, true, subst}
use Rattle.row_codec.specs.Ranges.{IsGreater}
use Rattle.row_codec.proofs.RangeLaws.{common_key, common_before_a, common_before_b}
use Rattle.row_codec.proofs.intervals.common.Goals as goal

pub returns-then-is_before : goal.returns-then-is_before
returns-then-is_before c =
    let g : IsGreater c.args.a.now.low c.args.b.now.low c.greater-low.result.now =
    subst (λ (l : List ℕ). IsGreater l c.args.b.now.low c.greater-low.result.now) c.as_slice.ensures (subst (λ (l : List ℕ). IsGreater c.as_slice.result.now l c.greater-low.result.now) c.as_slice-2.ensures c.greater-low.ensures) in (
      λ t. common_key c.args.a.now c.args.b.now c.greater-low.result.now g (c.is_before.ensures.0 c.if-is_before.true) (c.is_before-then-is_before.ensures.0 t),
      λ k. c.is_before-then-is_before.ensures.1 (common_before_b c.args.a.now c.args.b.now c.greater-low.result.now g k),
    )

pub returns-else-is_before : goal.returns-else-is_before
returns-else-is_before c =
    let g : IsGreater c.args.a.now.low c.args.b.now.low c.greater-low.result.now =
    subst (λ (l : List ℕ). IsGreater l c.args.b.now.low c.greater-low.result.now) c.as_slice.ensures (subst (λ (l : List ℕ). IsGreater c.as_slice.result.now l c.greater-low.result.now) c.as_slice-2.ensures c.greater-low.ensures) in (
      λ t. let e : c.is_before.result ≡ true = t in absurd (cc (e, c.if-is_before.false)),
      λ k. c.is_before.ensures.1 (common_before_a c.args.a.now c.args.b.now c.greater-low.result.now g k),
    )
