-- Lists without their first items.
use Rattle.std.specs.Prelude.{◌≡◌, ℕ, zero, suc, ◌+◌, List, [], ◌∷◌, drop}
use mathlib.Core.Path.{sym, subst}
use Rattle.std.proofs.Common.{arith}

pub drop_next : {X : Type 0} (n : ℕ) (xs : List X) (y : X) (ys : List X) → drop n xs ≡ y ∷ ys → drop (n + 1) xs ≡ ys
drop_next zero [] y ys e = absurd cc
drop_next zero (x ∷ xs) y ys e = let same : xs ≡ ys = cc in same
drop_next (suc n) [] y ys e = absurd cc
drop_next {X} (suc n) (x ∷ xs) y ys e = let more : suc n + 1 ≡ suc (n + 1) = omega arith in subst (λ k. drop k (x ∷ xs) ≡ ys) (sym more) (drop_next n xs y ys e)
