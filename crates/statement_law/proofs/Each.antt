-- What holds of each of some things.
use Rattle.std.specs.Prelude.{◌≡◌, Bool, true, false, cond, List, [], ◌∷◌, ◌++◌, filter}
use Rattle.std.specs.List.{AllByRecursion}
use mathlib.Core.Path.{refl}

pub each_parts : {X : Type 0} (P : X → Type 0) (xs ys : List X) → AllByRecursion P (xs ++ ys) → AllByRecursion P xs × AllByRecursion P ys
each_parts P [] ys h = (tt, h)
each_parts P (x ∷ xs) ys h = let rest = each_parts P xs ys h.1 in ((h.0, rest.0), rest.1)

pub paired : {X : Type 0} (P Q : X → Type 0) (xs : List X) → AllByRecursion P xs → AllByRecursion Q xs → AllByRecursion (λ x. P x × Q x) xs
paired P Q [] h k = tt
paired P Q (x ∷ xs) h k = ((h.0, k.0), paired P Q xs h.1 k.1)

-- those that pass a test do so
pub each_passes : {X : Type 0} (P : X → Type 0) (test : X → Bool) (xs : List X) → AllByRecursion P xs → AllByRecursion (λ x. (test x ≡ true) × P x) (filter test xs)
each_passes P test [] h = tt
each_passes P test (x ∷ xs) h =
    let rest = each_passes P test xs h.1 in
    elim (test x) as (λ b. test x ≡ b → AllByRecursion (λ x. (test x ≡ true) × P x) (cond b (x ∷ filter test xs) (filter test xs))) [
      | true ↦ λ e. ((e, h.0), rest)
      | false ↦ λ e. rest
    ] refl
