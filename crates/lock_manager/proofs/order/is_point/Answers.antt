use Rattle.std.proofs.Common.{◌≡◌, [], ◌∷◌, ◌++◌, List, ℕ, Some, sym, ap, ◌∙◌}
use Rattle.lock_manager.proofs.Places.{point_by}
use Rattle.lock_manager.proofs.order.is_point.Goals as goal

some_same : (a b : List ℕ) → Some a ≡ Some b → a ≡ b
some_same a b e = cc

pub returns-then-last-eq0 : goal.returns-then-last-eq0
returns-then-last-eq0 c =
    let interval = c.args.interval.now in
    let high = c.as_slice.result.now in
    let is : interval.high ≡ Some high = c.in-Some.is ∙ ap Some (sym c.as_slice.ensures) in
    let low = c.as_slice-then-last-eq0.result.now in
    let told = point_by high c.in-Some-split_last.front.now low c.in-Some-split_last.last.now c.eq.result c.in-Some-split_last.ensures.cases.0 c.if-last-eq0.true c.eq.ensures in (
      λ t. is ∙ ap Some (told.0 t ∙ ap (λ (l : List ℕ). l ++ 0 ∷ []) c.as_slice-then-last-eq0.ensures),
      λ p. let same : Some high ≡ Some (low ++ 0 ∷ []) = sym is ∙ (p ∙ ap (λ (l : List ℕ). Some (l ++ 0 ∷ [])) (sym c.as_slice-then-last-eq0.ensures)) in told.1 (some_same high (low ++ 0 ∷ []) same),
    )
