use Rattle.std.proofs.Common.{◌≡◌, ◌∷◌, [], ◌++◌, List, ℕ, ap, ◌∙◌}
use Rattle.row_codec.proofs.RangeLaws.{alone}
use Rattle.row_codec.proofs.intervals.point.Goals as goal

pub returns-clause-alone : goal.returns-clause-alone
returns-clause-alone c k =
    let low : c.in_ok-low.low ≡ c.args.key.now = c.in_ok-low.ensures ∙ c.as_slice.ensures in
    let high : c.push.new.self ≡ c.args.key.now ++ 0 ∷ [] = c.in_ok-push.ensures.ok ∙ ap (λ (l : List ℕ). l ++ 0 ∷ []) (c.in_ok-high.ensures ∙ c.as_slice-2.ensures) in
    rw (low, high) (alone c.args.key.now k)
