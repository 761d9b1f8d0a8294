-- A list with one of its places set.
use Rattle.std.specs.Prelude.{◌≡◌, ◌≢◌, ℕ, zero, suc, ◌<◌, List, [], ◌∷◌, map, length, slice_get, slice_set, Some}
use mathlib.Core.Path.{refl, ap, ◌∙◌}
use Rattle.std.proofs.Common.{arith}

pub set_here : {X : Type 0} (xs : List X) (i : ℕ) (v : X) → i < length xs → slice_get (slice_set xs i v) i ≡ Some v
set_here [] i v lt = absurd (omega arith)
set_here (x ∷ xs) zero v lt = refl
set_here (x ∷ xs) (suc i) v lt = set_here xs i v (omega arith)

pub set_elsewhere : {X : Type 0} (xs : List X) (i j : ℕ) (v : X) → j ≢ i → slice_get (slice_set xs i v) j ≡ slice_get xs j
set_elsewhere [] i j v other = refl
set_elsewhere (x ∷ xs) zero zero v other = absurd (other refl)
set_elsewhere (x ∷ xs) zero (suc j) v other = refl
set_elsewhere (x ∷ xs) (suc i) zero v other = refl
set_elsewhere (x ∷ xs) (suc i) (suc j) v other = set_elsewhere xs i j v (λ e. other (ap suc e))

pub set_length : {X : Type 0} (xs : List X) (i : ℕ) (v : X) → length (slice_set xs i v) ≡ length xs
set_length [] i v = refl
set_length (x ∷ xs) zero v = refl
set_length (x ∷ xs) (suc i) v = ap suc (set_length xs i v)

-- what functions that agree at all other places give
pub map_set : {X Y : Type 0} (f g : X → Y) (xs : List X) (i : ℕ) (v : X) → ((j : ℕ) (x : X) → slice_get xs j ≡ Some x → j ≢ i → g x ≡ f x) → map g (slice_set xs i v) ≡ slice_set (map f xs) i (g v)
map_set f g [] i v same = refl
map_set f g (x ∷ xs) zero v same = ap (λ ys. g v ∷ ys) (each xs (λ j y at. same (suc j) y at (λ e. absurd (omega (arith, e)))))
  where
    each : (ys : List _) → ((j : ℕ) (y : _) → slice_get ys j ≡ Some y → g y ≡ f y) → map g ys ≡ map f ys
    each [] h = refl
    each (y ∷ ys) h = ap (λ z. z ∷ map g ys) (h 0 y refl) ∙ ap (λ zs. f y ∷ zs) (each ys (λ j z at. h (suc j) z at))
map_set f g (x ∷ xs) (suc i) v same =
    ap (λ z. z ∷ map g (slice_set xs i v)) (same 0 x refl (λ e. absurd (omega (arith, e))))
    ∙ ap (λ ys. f x ∷ ys) (map_set f g xs i v (λ j y at other. same (suc j) y at (λ e. other (omega (arith, e)))))
