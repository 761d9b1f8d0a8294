-- What is found first in the order of moments.
use Rattle.std.specs.Prelude.{◌≡◌, ◌≢◌, ◌&&◌, ◌==◌, ℕ, zero, suc, Bool, true, false, cond, not, nat_lt, List, [], ◌∷◌, Option, Some, None}
use mathlib.Core.Path.{refl, sym, ap, subst, ◌∙◌}
use Rattle.std.proofs.Common.{rules, arith}
use Rattle.std.specs.List.{AllByRecursion}
use Rattle.std.specs.declared.cmp.Ordering.{Ordering}
use Rattle.std.specs.declared.cmp.Ordering.TheVariants.{Less, Equal, Greater}
use Rattle.std.specs.Ordering.{nat_cmp, ordering_reverse, ordering_then, is_lt, is_gt, is_eq}
use Rattle.std.specs.Cmp.{nat_cmp_total, nat_cmp_is, tied_itself}
use Rattle.std.specs.FinMap.{nat_cmp-IsAntisymmetric}
use Rattle.std.specs.Cmp.Lexicographic.{slice_cmp}
use Rattle.table_laws.specs.Place.{Place, place_cmp}
use Rattle.table_laws.proofs.Place.{place_cmp_total}
use Rattle.version_chain.specs.Versions.{Moment, moment_cmp, Version, place, number, AreInOrder, first_where, is_from}
use Rattle.version_chain.proofs.Around.{less_up_to}
use Rattle.version_chain.specs.Chains.{is_of, is_empty, row_at, IsLeastFrom}

-- ---- places

-- of moments in order the first one's place is not behind
place_order : (x y : Moment) → moment_cmp x y ≢ Greater → place_cmp x.0 y.0 ≢ Greater
place_order x y n g = n (ap (λ o. ordering_then o (nat_cmp x.1 y.1)) g)

pub is_lt_nat : (n m : ℕ) → is_lt (nat_cmp n m) ≡ nat_lt n m
is_lt_nat n m = elim (nat_lt n m) as (λ b. is_lt (cond b Less (cond (n == m) Equal Greater)) ≡ b) [
  | true ↦ refl
  | false ↦ elim (n == m) as (λ b. is_lt (cond b Equal Greater) ≡ false) [ true ↦ refl | false ↦ refl ]
]

not_below : (m : ℕ) → is_gt (nat_cmp 0 m) ≡ false
not_below zero = refl
not_below (suc m) = rw (sym (nat_cmp_is 0 (suc m) Less (omega arith))) refl

-- of one index the key decides
of_key : (i : ℕ) (k l : List ℕ) → place_cmp (i, k) (i, l) ≡ Greater → slice_cmp nat_cmp k l ≡ Greater
of_key i k l g = sym (ap (λ w. ordering_then w (slice_cmp nat_cmp k l)) (tied_itself nat_cmp_total i)) ∙ g

-- a place between two places of an index is of that index
same_index : (i j : ℕ) (k l m : List ℕ) → place_cmp (i, k) (j, m) ≢ Greater → place_cmp (j, m) (i, l) ≢ Greater → j ≡ i
same_index i j k l m from to = nat_cmp-IsAntisymmetric j i (by (nat_cmp j i) refl)
  where
    by : (w : Ordering) → nat_cmp j i ≡ w → nat_cmp j i ≡ Equal
    by Less is = absurd (from (ap (λ w. ordering_then w (slice_cmp nat_cmp k m)) (nat_cmp_total.antisymm i j ∙ ap ordering_reverse is)))
    by Equal is = is
    by Greater is = absurd (to (ap (λ w. ordering_then w (slice_cmp nat_cmp m l)) is))

-- what is found, if anything is
abbrev pub IfFound : {V : Type 0} → (Version V → Type 0) → Option (Version V) → Type 0
IfFound P None = ⊥
IfFound P (Some v) = P v

module _ {V : Type 0} where
  -- a place that is before the first of some versions has none of them
  none_before : (p q : Place) (vs : List (Version V)) → place_cmp p q ≡ Less → AllByRecursion (λ v. place_cmp q (place v) ≢ Greater) vs → is_empty p vs ≡ true
  none_before p q [] lt h = refl
  none_before p q (v ∷ vs) lt h = rw (less_up_to place_cmp_total p q (place v) lt h.0) (none_before p q vs lt h.1)

  -- what is not behind in moments is not behind in places
  all_places : (m : Moment) (vs : List (Version V)) → AllByRecursion (λ w. moment_cmp m w.0 ≢ Greater) vs → AllByRecursion (λ w. place_cmp m.0 (place w) ≢ Greater) vs
  all_places m [] h = tt
  all_places m (v ∷ vs) h = (place_order m v.0 h.0, all_places m vs h.1)

  pub none_after : (p : Place) (v : Version V) (vs : List (Version V)) → AreInOrder (v ∷ vs) → place_cmp p (place v) ≡ Less → is_empty p vs ≡ true
  none_after p v vs h lt = none_before p (place v) vs lt (all_places v.0 vs h.0)

  -- ---- whether a place has versions

  -- whether what was found is of no place but another one
  abbrev pub is_other : Place → Option (Version V) → Bool
  is_other p None = true
  is_other p (Some v) = not (is_of p v)

  pub is_empty_by_first : (p : Place) (vs : List (Version V)) → AreInOrder vs → is_empty p vs ≡ is_other p (first_where (is_from false (p, 0)) vs)
  is_empty_by_first p [] h = refl
  is_empty_by_first p (v ∷ vs) h = by (place_cmp p (place v)) refl (is_empty_by_first p vs h.1)
    where
      by : (w : Ordering) → place_cmp p (place v) ≡ w
          → is_empty p vs ≡ is_other p (first_where (is_from false (p, 0)) vs)
          → is_empty p (v ∷ vs) ≡ is_other p (first_where (is_from false (p, 0)) (v ∷ vs))
      by Less is rest = rw is (rw is (none_after p v vs h is))
      by Equal is rest = rw is (rw (not_below (number v)) (rw is refl))
      by Greater is rest = rw is rest

  -- ---- the least key

  -- what is found is there, and passes
  found_there : (test : Version V → Bool) (vs : List (Version V)) (v : Version V) → first_where test vs ≡ Some v → (is_empty (place v) vs ≡ false) × (test v ≡ true)
  found_there test [] v f = absurd (cc)
  found_there test (x ∷ vs) v f = by (test x) refl f (λ g. found_there test vs v g)
    where
      by : (b : Bool) → test x ≡ b → first_where test (x ∷ vs) ≡ Some v → (first_where test vs ≡ Some v → (is_empty (place v) vs ≡ false) × (test v ≡ true))
          → (is_empty (place v) (x ∷ vs) ≡ false) × (test v ≡ true)
      by true is f rest =
          let same : x ≡ v = search rules in (
            subst (λ y. is_empty (place y) (x ∷ vs) ≡ false) same (rw (tied_itself place_cmp_total (place x)) refl),
            subst (λ y. test y ≡ true) same is,
          )
      by false is f rest =
          let found = rest (search rules) in
          (elim (is_of (place v) x) as (λ b. (not b && is_empty (place v) vs) ≡ false) [ true ↦ refl | false ↦ found.0 ], found.1)

  -- a place from a key on has no version before the first that is found, which is not behind it
  first_up_to : (p q : Place) (vs : List (Version V)) → AreInOrder vs → place_cmp p q ≢ Greater → is_empty q vs ≡ false
      → IfFound (λ v. place_cmp (place v) q ≢ Greater) (first_where (is_from false (p, 0)) vs)
  first_up_to p q [] h up e = absurd (cc e)
  first_up_to p q (x ∷ vs) h up e = by (place_cmp p (place x)) (place_cmp q (place x)) refl refl (λ f. first_up_to p q vs h.1 up f)
    where
      up_to : (w : Ordering) → place_cmp q (place x) ≡ w → place_cmp (place x) q ≢ Greater
      up_to Less is g = let none : is_empty q (x ∷ vs) ≡ true = rw is (none_after q x vs h is) in let bad : true ≡ false = sym none ∙ e in absurd (cc bad)
      up_to Equal is g = let back : place_cmp (place x) q ≡ Equal = place_cmp_total.antisymm (place x) q ∙ ap ordering_reverse is in let bad : Equal ≡ Greater = sym back ∙ g in absurd (cc bad)
      up_to Greater is g = let back : place_cmp (place x) q ≡ Less = place_cmp_total.antisymm (place x) q ∙ ap ordering_reverse is in let bad : Less ≡ Greater = sym back ∙ g in absurd (cc bad)

      by : (w z : Ordering) → place_cmp p (place x) ≡ w → place_cmp q (place x) ≡ z → (is_empty q vs ≡ false → IfFound (λ v. place_cmp (place v) q ≢ Greater) (first_where (is_from false (p, 0)) vs))
          → IfFound (λ v. place_cmp (place v) q ≢ Greater) (first_where (is_from false (p, 0)) (x ∷ vs))
      by Less z is at rest = rw is (up_to z at)
      by Equal z is at rest = rw is (rw (not_below (number x)) (up_to z at))
      by Greater Equal is at rest = absurd (up (place_cmp_total.antisymm p q ∙ ap ordering_reverse (sym (place_cmp_total.congr (place x) q p (place_cmp_total.antisymm (place x) q ∙ ap ordering_reverse at)) ∙ (place_cmp_total.antisymm (place x) p ∙ ap ordering_reverse is))))
      by Greater Less is at rest = rw is (rest (sym (ap (λ w. not (is_eq w) && is_empty q vs) at) ∙ e))
      by Greater Greater is at rest = rw is (rest (sym (ap (λ w. not (is_eq w) && is_empty q vs) at) ∙ e))

  from_place : (p : Place) (v : Version V) → is_from false (p, 0) v ≡ true → place_cmp p (place v) ≢ Greater
  from_place p v t g = let bad : false ≡ true = subst (λ w. not (is_gt (ordering_then w (nat_cmp 0 (number v)))) ≡ true) g t in absurd (cc bad)

  module _ (i : ℕ) (key : List ℕ) (vs : List (Version V)) (h : AreInOrder vs) where
    pub least_none : first_where (is_from false ((i, key), 0)) vs ≡ None → IsLeastFrom i key vs None
    least_none f = record { held = tt; least = λ k up e. subst (IfFound (λ v. place_cmp (place v) (i, k) ≢ Greater)) f (first_up_to (i, key) (i, k) vs h (λ g. up (of_key i key k g)) e) }

    pub least_is : (v : Version V) → first_where (is_from false ((i, key), 0)) vs ≡ Some v → (place v).0 ≡ i → IsLeastFrom i key vs (Some (place v).1)
    least_is v f same =
        let at : place v ≡ (i, (place v).1) = ap (λ (j : ℕ). (j, (place v).1)) same in
        let there = found_there (is_from false ((i, key), 0)) vs v f in
        record {
          held = (λ g. from_place (i, key) v there.1 (ap (place_cmp (i, key)) at ∙ (rw (tied_itself nat_cmp_total i) g)), sym (ap (λ p. is_empty p vs) at) ∙ there.0);
          least = λ k up e g. subst (IfFound (λ v. place_cmp (place v) (i, k) ≢ Greater)) f (first_up_to (i, key) (i, k) vs h (λ g. up (of_key i key k g)) e) (ap (λ p. place_cmp p (i, k)) at ∙ rw (tied_itself nat_cmp_total i) g);
        }

    pub least_other : (v : Version V) → first_where (is_from false ((i, key), 0)) vs ≡ Some v → ((place v).0 ≡ i → ⊥) → IsLeastFrom i key vs None
    least_other v f other =
        let there = found_there (is_from false ((i, key), 0)) vs v f in
        record {
          held = tt;
          least = λ k up e. other (same_index i (place v).0 key k (place v).1 (from_place (i, key) v there.1) (subst (IfFound (λ v. place_cmp (place v) (i, k) ≢ Greater)) f (first_up_to (i, key) (i, k) vs h (λ g. up (of_key i key k g)) e)));
        }

-- ---- a row at a number

-- what a found version tells of a row
abbrev pub told : Place → Option (List ℕ) → Option (Version (Option (List ℕ))) → Option (List ℕ)
told p now None = now
told p now (Some v) = cond (is_of p v) v.1 now

as_now : (n : ℕ) (p : Place) (now : Option (List ℕ)) (vs : List (Version (Option (List ℕ)))) → is_empty p vs ≡ true → row_at n p now vs ≡ now
as_now n p now [] e = refl
as_now n p now (v ∷ vs) e = by (is_of p v) refl e (λ x. as_now n p now vs x)
  where
    by : (b : Bool) → is_of p v ≡ b → is_empty p (v ∷ vs) ≡ true → (is_empty p vs ≡ true → row_at n p now vs ≡ now) → row_at n p now (v ∷ vs) ≡ now
    by true is e rest = absurd (cc)
    by false is e rest = rw is (rest (cc))

pub row_by_first : (n : ℕ) (p : Place) (now : Option (List ℕ)) (vs : List (Version (Option (List ℕ)))) → AreInOrder vs
    → row_at n p now vs ≡ told p now (first_where (is_from true (p, n)) vs)
row_by_first n p now [] h = refl
row_by_first n p now (v ∷ vs) h = by (place_cmp p (place v)) (nat_lt n (number v)) refl refl (row_by_first n p now vs h.1)
  where
    by : (w : Ordering) (b : Bool) → place_cmp p (place v) ≡ w → nat_lt n (number v) ≡ b
        → row_at n p now vs ≡ told p now (first_where (is_from true (p, n)) vs)
        → row_at n p now (v ∷ vs) ≡ told p now (first_where (is_from true (p, n)) (v ∷ vs))
    by Less b is less rest = rw is (rw is (as_now n p now vs (none_after p v vs h is)))
    by Equal true is less rest = rw is (rw (is_lt_nat n (number v)) (rw less (rw is refl)))
    by Equal false is less rest = rw is (rw (is_lt_nat n (number v)) (rw less rest))
    by Greater b is less rest = rw is rest
