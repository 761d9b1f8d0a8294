-- Lemmas on columns that are of one kind.
use Rattle.std.specs.Prelude.{◌≡◌, ◌≢◌, ◌↔◌, ℕ, suc, T, false, IsTrue, List, [], ◌∷◌, length}
use mathlib.Core.Path.{refl, sym, ap, subst}
use Rattle.iv_types.specs.declared.value.Kind.{Kind}
use Rattle.row_eval.specs.Fresh.{AreAlike}

pub as_many : (one other : List Kind) (columns places : List ℕ) → AreAlike one other columns places → length columns ≡ length places
as_many one other [] [] a = refl
as_many one other [] (p ∷ ps) a = absurd a
as_many one other (c ∷ cs) [] a = absurd a
as_many one other (c ∷ cs) (p ∷ ps) a = ap suc (as_many one other cs ps a.1)

-- where there are more of one than of the other, they are not alike
pub not_as_many : (one other : List Kind) (columns places : List ℕ) → length columns ≢ length places → IsTrue false ↔ AreAlike one other columns places
not_as_many one other columns places h = ((λ t. absurd (subst T (sym t) tt)), (λ a. absurd (h (as_many one other columns places a))))
