-- Sums of numbers over the sessions, of which one session's changes.
use Rattle.std.specs.Prelude.{◌≡◌, ◌≢◌, ℕ, zero, suc, ◌+◌, ◌≤◌, List, [], ◌∷◌, ◌++◌, map}
use Rattle.std.specs.List.{fold, sum}
use mathlib.Core.Path.{refl, sym, ap, ◌∙◌}
use mathlib.Core.Logic.{inl, inr}
use Rattle.std.proofs.Common.{arith}
use Rattle.std.proofs.lemmas.List.{map-append}
use Rattle.std.proofs.lemmas.List.Sums.{fold-append}
use Rattle.std.proofs.lemmas.Bool.Decides.{eqb_tells}
use Rattle.txn_machine.specs.Counts.{sum_over, text_size, definition_sizes}

pub sum_same : (n : ℕ) (f g : ℕ → ℕ) → ((j : ℕ) → 1 ≤ j → j ≤ n → g j ≡ f j) → sum_over n g ≡ sum_over n f
sum_same zero f g h = refl
sum_same (suc n) f g h =
    let below : sum_over n g ≡ sum_over n f = sum_same n f g (λ j l m. h j l (omega (arith, m))) in
    let here : g (suc n) ≡ f (suc n) = h (suc n) (omega arith) (omega arith) in
    omega (arith, below, here)

pub sum_none : (n : ℕ) (f : ℕ → ℕ) → ((j : ℕ) → 1 ≤ j → j ≤ n → f j ≡ 0) → sum_over n f ≡ 0
sum_none zero f h = refl
sum_none (suc n) f h =
    let below : sum_over n f ≡ 0 = sum_none n f (λ j l m. h j l (omega (arith, m))) in
    let here : f (suc n) ≡ 0 = h (suc n) (omega arith) (omega arith) in
    omega (arith, below, here)

pub sum_one : (n : ℕ) (f g : ℕ → ℕ) (i : ℕ) → 1 ≤ i → i ≤ n → ((j : ℕ) → j ≢ i → g j ≡ f j) → sum_over n g + f i ≡ sum_over n f + g i
sum_one zero f g i l m h = absurd (omega (arith, l, m))
sum_one (suc n) f g i l m h = elim (eqb_tells (suc n) i) [
  | inl t ↦
      let below : sum_over n g ≡ sum_over n f = sum_same n f g (λ j lo hi. h j (λ e. absurd (let x = t.1 in omega (arith, hi, e, x)))) in
      let fi : f i ≡ f (suc n) = ap f (sym t.1) in
      let gi : g i ≡ g (suc n) = ap g (sym t.1) in
      omega (arith, below, fi, gi)
  | inr t ↦
      let less : i ≤ n = (let x = t.1 in omega (arith, m, x)) in
      let below : sum_over n g + f i ≡ sum_over n f + g i = sum_one n f g i l less h in
      let here : g (suc n) ≡ f (suc n) = h (suc n) (λ e. t.1 e) in
      omega (arith, below, here)
]

sum_from : (a : ℕ) (xs : List ℕ) → fold ◌+◌ a xs ≡ a + sum xs
sum_from a [] = omega arith
sum_from a (x ∷ xs) =
    let one : fold ◌+◌ (a + x) xs ≡ (a + x) + sum xs = sum_from (a + x) xs in
    let other : sum (x ∷ xs) ≡ (0 + x) + sum xs = sum_from (0 + x) xs in
    omega (arith, one, other)

pub sum_first : (x : ℕ) (xs : List ℕ) → sum (x ∷ xs) ≡ x + sum xs
sum_first x xs = let one : sum (x ∷ xs) ≡ (0 + x) + sum xs = sum_from (0 + x) xs in omega (arith, one)

-- one definition more
pub sizes_more : (texts : List (List ℕ)) (text : List ℕ) → definition_sizes (texts ++ text ∷ []) ≡ definition_sizes texts + text_size text
sizes_more texts text =
    ap sum (map-append text_size texts (text ∷ [])) ∙ fold-append ◌+◌ 0 (map text_size texts) (text_size text ∷ [])
