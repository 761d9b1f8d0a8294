-- The order of keys, and of locks by their places.
use Rattle.std.proofs.Common.{◌≡◌, ◌≢◌, ℕ, ◌<◌, ◌≤◌, Bool, true, false, List, [], ◌∷◌, refl, sym, ap, subst, ◌∙◌, inl, inr, Ordering, Less, Equal, Greater}
use Rattle.std.specs.Prelude.{◌⊎◌}
use Rattle.std.proofs.lemmas.Bool.{cases_lt}
use Rattle.std.proofs.lemmas.Cmp.{nat_list_cmp_total, tied_itself}
use Rattle.std.specs.Ordering.{nat_cmp, ordering_then, ordering_reverse, is_lt, is_gt}
use Rattle.std.specs.Cmp.Lexicographic.{slice_cmp}
use Rattle.std.specs.FinMap.{IsAntisymmetric, nat_cmp-IsAntisymmetric, slice_cmp-IsAntisymmetric}
use Rattle.row_codec.proofs.Orders.{cmp_less, cmp_equal, cmp_greater}

abbrev pub by_bytes : List ℕ → List ℕ → Ordering
by_bytes = slice_cmp nat_cmp

bytes_same : IsAntisymmetric by_bytes
bytes_same = slice_cmp-IsAntisymmetric nat_cmp-IsAntisymmetric

pub cases_bool : (b : Bool) → (b ≡ true) ⊎ (b ≡ false)
cases_bool true = inl refl
cases_bool false = inr refl

pub true_false : {A : Type 0} → true ≡ false → A
true_false e = absurd (cc e)

pub less_true : (r : Ordering) → is_lt r ≡ true → r ≡ Less
less_true Less p = refl
less_true Equal p = true_false (sym p)
less_true Greater p = true_false (sym p)

pub greater_true : (r : Ordering) → is_gt r ≡ true → r ≡ Greater
greater_true Less p = true_false (sym p)
greater_true Equal p = true_false (sym p)
greater_true Greater p = refl

-- ---- keys that are not before others

-- a is at most b, if b is not before a
pub at_most_cases : (a b : List ℕ) → is_lt (by_bytes b a) ≡ false → (by_bytes a b ≡ Less) ⊎ (a ≡ b)
at_most_cases a b h = elim (by_bytes a b) as (λ r. by_bytes a b ≡ r → (by_bytes a b ≡ Less) ⊎ (a ≡ b)) [
  | Less ↦ λ e. inl e
  | Equal ↦ λ e. inr (bytes_same a b e)
  | Greater ↦ λ e. let back : by_bytes b a ≡ Less = nat_list_cmp_total.antisymm b a ∙ ap ordering_reverse e in true_false (sym (ap is_lt back) ∙ h)
] refl

pub not_itself : (a : List ℕ) → is_lt (by_bytes a a) ≡ false
not_itself a = ap is_lt (tied_itself nat_list_cmp_total a)

pub not_both : (a b : List ℕ) → by_bytes a b ≡ Less → is_lt (by_bytes b a) ≡ false
not_both a b e = ap is_lt (nat_list_cmp_total.antisymm b a ∙ ap ordering_reverse e)

-- a ≤ b and b < c
pub below_from : (a b c : List ℕ) → is_lt (by_bytes b a) ≡ false → by_bytes b c ≡ Less → by_bytes a c ≡ Less
below_from a b c h l = elim (at_most_cases a b h) [
  | inl e ↦ nat_list_cmp_total.trans a b c e l
  | inr e ↦ subst (λ (x : List ℕ). by_bytes x c ≡ Less) (sym e) l
]

-- a < b and b ≤ c
pub below_up_to : (a b c : List ℕ) → by_bytes a b ≡ Less → is_lt (by_bytes c b) ≡ false → by_bytes a c ≡ Less
below_up_to a b c l h = elim (at_most_cases b c h) [
  | inl e ↦ nat_list_cmp_total.trans a b c l e
  | inr e ↦ subst (λ (x : List ℕ). by_bytes a x ≡ Less) e l
]

-- a ≤ b and b ≤ c
pub at_most_from : (a b c : List ℕ) → is_lt (by_bytes b a) ≡ false → is_lt (by_bytes c b) ≡ false → is_lt (by_bytes c a) ≡ false
at_most_from a b c h g = elim (cases_bool (is_lt (by_bytes c a))) [
  | inl t ↦ true_false (sym (ap is_lt (below_up_to c a b (less_true _ t) h)) ∙ g)
  | inr f ↦ f
]

pub at_most_false : (a b : List ℕ) → by_bytes a b ≢ Greater → is_lt (by_bytes b a) ≡ false
at_most_false a b h = elim (cases_bool (is_lt (by_bytes b a))) [
  | inl t ↦ absurd (h (nat_list_cmp_total.antisymm a b ∙ ap ordering_reverse (less_true _ t)))
  | inr f ↦ f
]

-- ---- behind an index

pub same_index : (i : ℕ) (a b : List ℕ) → by_bytes (i ∷ a) (i ∷ b) ≡ by_bytes a b
same_index i a b = ap (λ (o : Ordering). ordering_then o (by_bytes a b)) (cmp_equal i i refl)

pub index_less : (i j : ℕ) (a b : List ℕ) → i < j → by_bytes (i ∷ a) (j ∷ b) ≡ Less
index_less i j a b lt = ap (λ (o : Ordering). ordering_then o (by_bytes a b)) (cmp_less i j lt)

pub index_greater : (i j : ℕ) (a b : List ℕ) → j < i → by_bytes (i ∷ a) (j ∷ b) ≡ Greater
index_greater i j a b lt = ap (λ (o : Ordering). ordering_then o (by_bytes a b)) (cmp_greater i j lt)

pub index_at_most : (i j : ℕ) (a b : List ℕ) → is_lt (by_bytes (j ∷ b) (i ∷ a)) ≡ false → i ≤ j
index_at_most i j a b h = elim (cases_lt j i) [
  | inl lt ↦ true_false (sym (ap is_lt (index_less j i b a lt)) ∙ h)
  | inr le ↦ le
]

pub below_nothing : (a : List ℕ) → is_lt (by_bytes a []) ≡ false
below_nothing [] = refl
below_nothing (x ∷ a) = refl
