-- A place in sorted entries: what is found there, and what an edit there does.
use Rattle.std.specs.Prelude.{◌≡◌, ◌≢◌, ℕ, zero, suc, ◌<◌, ◌≤◌, Bool, true, false, cond, not, T, ◌&&◌, List, [], ◌∷◌, length, Option, Some, None, IsSome, is_some, slice_get, slice_index_or}
use mathlib.Core.Path.{refl, sym, ap, subst, ◌∙◌}
use Rattle.std.proofs.Common.{arith, set}
use Rattle.std.proofs.lemmas.Bool.{cases_lt}
use Rattle.std.specs.List.{insert, remove}
use Rattle.std.specs.List.Sorted.{IsPartitionPoint, IsPartitionedBy}
use mathlib.Core.Logic.{inl, inr}
use Rattle.std.specs.FinMap.{IsAntisymmetric, find, put, is_sorted}
use Rattle.std.specs.FinMap.Entries.{below_all, where_key, by_order}
use Rattle.std.specs.declared.cmp.Ordering.{Ordering}
use Rattle.std.specs.declared.cmp.Ordering.TheVariants.{Less, Equal, Greater}
use Rattle.std.specs.Ordering.{eq_by_cmp, is_eq, is_lt, is_le, is_ge, ordering_reverse}
use Rattle.std.specs.Cmp.{IsTotalOrder, tied_itself}
use Rattle.iv_types.specs.Maps.{first_where}
use Rattle.table_store.specs.Lists.{IsPlace}

-- ---- tests

pub first : (a b : Bool) → T (a && b) → T a
first true b p = tt
first false b p = p

pub second : (a b : Bool) → T (a && b) → T b
second true b p = p
second false b p = absurd p

pub both : (a b : Bool) → T a → T b → T (a && b)
both true b p q = q
both false b p q = p

pub less : (r : Ordering) → T (is_lt r) → r ≡ Less
less Less p = refl
less Equal p = absurd p
less Greater p = absurd p

pub equal : (r : Ordering) → is_eq r ≡ true → r ≡ Equal
equal Less p = cc
equal Equal p = refl
equal Greater p = cc

-- ---- the order of the entries

module _ {K : Type 0} (R : K → K → Ordering) {X : Type 0} where
  pub first_below : (e : K × X) (es : List (K × X)) → T (is_sorted R (e ∷ es)) → T (below_all R e.0 es)
  first_below e es h = first (below_all R e.0 es) (is_sorted R es) h

  pub rest_sorted : (e : K × X) (es : List (K × X)) → T (is_sorted R (e ∷ es)) → T (is_sorted R es)
  rest_sorted e es h = second (below_all R e.0 es) (is_sorted R es) h

  pub below_at : (x : K) (es : List (K × X)) (i : ℕ) (d : K × X) → T (below_all R x es) → i < length es → R x (slice_index_or es i d).0 ≡ Less
  below_at x [] i d h l = absurd (omega arith)
  below_at x (e ∷ es) zero d h l = less _ (first _ _ h)
  below_at x (e ∷ es) (suc i) d h l = below_at x es i d (second _ _ h) (omega arith)

  -- of two entries the later has the greater key
  pub rises : (es : List (K × X)) (i j : ℕ) (d : K × X) → T (is_sorted R es) → i < j → j < length es → R (slice_index_or es i d).0 (slice_index_or es j d).0 ≡ Less
  rises [] i j d h l b = absurd (omega arith)
  rises (e ∷ es) i zero d h l b = absurd (omega arith)
  rises (e ∷ es) zero (suc j) d h l b = below_at e.0 es j d (first_below e es h) (omega arith)
  rises (e ∷ es) (suc i) (suc j) d h l b = rises es i j d (rest_sorted e es h) (omega arith) (omega arith)

-- ---- places

module _ {K X : Type 0} (test : K → Bool) where
  -- where a binary search ends is a place
  pub place_from : (es : List (K × X)) (i : ℕ) → i ≤ length es
      → IsPartitionPoint (λ (y : K × X). test y.0 ≡ true) (λ (y : K × X). test y.0 ≡ false) es i → IsPlace test es i
  place_from [] zero le point = tt
  place_from [] (suc i) le point = absurd (omega arith)
  place_from (e ∷ es) zero le point = point.1 0 e (omega arith) (omega arith)
  place_from (e ∷ es) (suc i) le point = (
    point.0 0 e (omega arith) (omega arith),
    place_from es i (omega arith) (λ k d l h. point.0 (suc k) d (omega arith) (omega arith), λ k d l h. point.1 (suc k) d (omega arith) (omega arith)),
  )

  pub place_within : (es : List (K × X)) (i : ℕ) → IsPlace test es i → i ≤ length es
  place_within [] zero p = omega arith
  place_within [] (suc i) p = absurd p
  place_within (e ∷ es) zero p = omega arith
  place_within (e ∷ es) (suc i) p = let rest = place_within es i p.1 in omega arith

-- the first entry that fails a test stands at the place
pub first_at_place : (test pass : List ℕ → Bool) → ((x : List ℕ) → pass x ≡ not (test x))
    → (es : List (List ℕ × List ℕ)) (i : ℕ) → IsPlace test es i → first_where pass es ≡ slice_get es i
first_at_place test pass is [] zero p = refl
first_at_place test pass is [] (suc i) p = absurd p
first_at_place test pass is (e ∷ es) zero p = ap (λ b. cond b (Some e) (first_where pass es)) (is e.0 ∙ ap not p)
first_at_place test pass is (e ∷ es) (suc i) p = ap (λ b. cond b (Some e) (first_where pass es)) (is e.0 ∙ ap not p.0) ∙ first_at_place test pass is es i p.1

-- ---- the place of a key

-- the entry at the place has the key
abbrev pub HasKey : {K X : Type 0} → K → List (K × X) → ℕ → Type 0
HasKey k [] i = ⊥
HasKey k (e ∷ es) zero = e.0 ≡ k
HasKey k (e ∷ es) (suc i) = HasKey k es i

-- the first entry from a key on
abbrev pub from_key : {K X : Type 0} → (K → K → Ordering) → K → List (K × X) → Option (K × X)
from_key R k [] = None
from_key R k (e ∷ es) = cond (is_ge (R e.0 k)) (Some e) (from_key R k es)

-- its value, if it has the key
abbrev pub value_at : {K X : Type 0} → (K → K → Ordering) → K → Option (K × X) → Option X
value_at R k None = None
value_at R k (Some e) = cond (eq_by_cmp R k e.0) (Some e.1) None

pub less_true : (r : Ordering) → is_lt r ≡ true → r ≡ Less
less_true Less p = refl
less_true Equal p = cc
less_true Greater p = cc

module _ {K : Type 0} {R : K → K → Ordering} (o : IsTotalOrder R) (same : IsAntisymmetric R) where
  -- a key that is before the key of a place
  past : (k x : K) → is_lt (R x k) ≡ true → R k x ≡ Greater
  past k x p = o.antisymm k x ∙ ap ordering_reverse (less_true _ p)

  not_past : (k x : K) → is_lt (R x k) ≡ false → R k x ≢ Greater
  not_past k x p e = let lt : is_lt (R x k) ≡ true = ap is_lt (o.antisymm x k ∙ ap ordering_reverse e) in cc

  -- keys below a key that passes pass
  lower_lt : (k x y : K) → R x y ≡ Less → is_lt (R y k) ≡ true → is_lt (R x k) ≡ true
  lower_lt k x y lt p = ap is_lt (o.trans x y k lt (less_true _ p))

  lower_le : (k x y : K) → R x y ≡ Less → is_le (R y k) ≡ true → is_le (R x k) ≡ true
  lower_le k x y lt p = elim (R y k) as (λ r. R y k ≡ r → is_le r ≡ true → is_le (R x k) ≡ true) [
    | Less ↦ λ e q. ap is_le (o.trans x y k lt e)
    | Equal ↦ λ e q. subst (λ z. is_le (R x z) ≡ true) (same y k e) (ap is_le lt)
    | Greater ↦ λ e q. cc
  ] refl p

  module _ {X : Type 0} where
    -- in sorted entries those that pass come first
    pub parted_lt : (k : K) (es : List (K × X)) → T (is_sorted R es) → IsPartitionedBy (λ (e : K × X). is_lt (R e.0 k)) es
    parted_lt k es h i j d le b p = elim (cases_lt i j) [
      | inl lt ↦ lower_lt k _ _ (rises R es i j d h lt b) p
      | inr ge ↦ let e : i ≡ j = omega arith in subst (λ n. is_lt (R (slice_index_or es n d).0 k) ≡ true) (sym e) p
    ]

    pub parted_le : (k : K) (es : List (K × X)) → T (is_sorted R es) → IsPartitionedBy (λ (e : K × X). is_le (R e.0 k)) es
    parted_le k es h i j d le b p = elim (cases_lt i j) [
      | inl lt ↦ lower_le k _ _ (rises R es i j d h lt b) p
      | inr ge ↦ let e : i ≡ j = omega arith in subst (λ n. is_le (R (slice_index_or es n d).0 k) ≡ true) (sym e) p
    ]

    pub below_less : (x y : K) (es : List (K × X)) → R x y ≡ Less → T (below_all R y es) → T (below_all R x es)
    below_less x y [] p h = tt
    below_less x y (e ∷ es) p h = both _ _
        (subst (λ r. T (is_lt r)) (sym (o.trans x y e.0 p (less _ (first _ _ h)))) tt)
        (below_less x y es p (second _ _ h))

    pub below : (q : K) (es : List (K × X)) → T (below_all R q es) → find R q es ≡ None
    below q [] h = refl
    below q (e ∷ es) h = ap (λ r. cond (is_eq r) (Some e.1) (find R q es)) (less _ (first _ _ h)) ∙ below q es (second _ _ h)

    -- what stands at the place of a key that the entry there has
    pub find_here : (k : K) (es : List (K × X)) (i : ℕ) (d : K × X) → IsPlace (λ x. is_lt (R x k)) es i → HasKey k es i
        → find R k es ≡ Some (slice_index_or es i d).1
    find_here k [] i d p h = absurd h
    find_here k (e ∷ es) zero d p h = ap (λ x. cond (is_eq (R k x)) (Some e.1) (find R k es)) h ∙ ap (λ r. cond (is_eq r) (Some e.1) (find R k es)) (tied_itself o k)
    find_here k (e ∷ es) (suc i) d p h = ap (λ r. cond (is_eq r) (Some e.1) (find R k es)) (past k e.0 p.0) ∙ find_here k es i d p.1 h

    -- a key that is found is at its place
    pub found_here : (k : K) (es : List (K × X)) (i : ℕ) → T (is_sorted R es) → IsPlace (λ x. is_lt (R x k)) es i → IsSome (find R k es) → HasKey k es i
    found_here k [] i s p h = cc
    found_here k (e ∷ es) zero s p h = elim (R k e.0) as (λ r. R k e.0 ≡ r → IsSome (cond (is_eq r) (Some e.1) (find R k es)) → e.0 ≡ k) [
      | Less ↦ λ is f. let none : find R k es ≡ None = below k es (below_less k e.0 es is (first_below R e es s)) in
          absurd (let no : is_some {T = X} None ≡ true = sym (ap is_some none) ∙ f in cc)
      | Equal ↦ λ is f. sym (same k e.0 is)
      | Greater ↦ λ is f. absurd (not_past k e.0 p is)
    ] refl h
    found_here k (e ∷ es) (suc i) s p h = found_here k es i (rest_sorted R e es s) p.1
        (subst IsSome (ap (λ r. cond (is_eq r) (Some e.1) (find R k es)) (past k e.0 p.0)) h)

    -- the first entry from the key on tells what is found
    pub find_from : (k : K) (es : List (K × X)) → T (is_sorted R es) → find R k es ≡ value_at R k (from_key R k es)
    find_from k [] s = refl
    find_from k (e ∷ es) s = elim (R e.0 k) as (λ r. R e.0 k ≡ r → find R k (e ∷ es) ≡ value_at R k (cond (is_ge r) (Some e) (from_key R k es))) [
      | Less ↦ λ is. ap (λ r. cond (is_eq r) (Some e.1) (find R k es)) (o.antisymm k e.0 ∙ ap ordering_reverse is) ∙ find_from k es (rest_sorted R e es s)
      | Equal ↦ λ is.
          let tie : R k e.0 ≡ Equal = o.antisymm k e.0 ∙ ap ordering_reverse is in
          ap (λ r. cond (is_eq r) (Some e.1) (find R k es)) tie ∙ sym (ap (λ r. cond (is_eq r) (Some e.1) None) tie)
      | Greater ↦ λ is.
          let lt : R k e.0 ≡ Less = o.antisymm k e.0 ∙ ap ordering_reverse is in
          ap (λ r. cond (is_eq r) (Some e.1) (find R k es)) lt
          ∙ (below k es (below_less k e.0 es lt (first_below R e es s)) ∙ sym (ap (λ r. cond (is_eq r) (Some e.1) None) lt))
    ] refl

    -- ---- edits

    pub insert_here : (k : K) (v : X) (es : List (K × X)) (i : ℕ) → IsPlace (λ x. is_lt (R x k)) es i → find R k es ≡ None → insert es i (k, v) ≡ put R k v es
    insert_here k v [] zero p n = refl
    insert_here k v [] (suc i) p n = absurd p
    insert_here k v (e ∷ es) zero p n = elim (R k e.0) as (λ r. R k e.0 ≡ r → cond (is_eq r) (Some e.1) (find R k es) ≡ None
        → (k, v) ∷ e ∷ es ≡ by_order r ((k, v) ∷ e ∷ es) ((e.0, v) ∷ es) (e ∷ put R k v es)) [
          | Less ↦ λ is f. refl
          | Equal ↦ λ is f. cc
          | Greater ↦ λ is f. absurd (not_past k e.0 p is)
        ] refl n
    insert_here k v (e ∷ es) (suc i) p n =
        let rest : find R k es ≡ None = sym (ap (λ r. cond (is_eq r) (Some e.1) (find R k es)) (past k e.0 p.0)) ∙ n in
        ap (λ (l : List (K × X)). e ∷ l) (insert_here k v es i p.1 rest)
        ∙ sym (ap (λ r. by_order r ((k, v) ∷ e ∷ es) ((e.0, v) ∷ es) (e ∷ put R k v es)) (past k e.0 p.0))

    pub set_here : (k : K) (v : X) (es : List (K × X)) (i : ℕ) (d : K × X) → IsPlace (λ x. is_lt (R x k)) es i → HasKey k es i
        → set es i ((slice_index_or es i d).0, v) ≡ put R k v es
    set_here k v [] i d p h = absurd h
    set_here k v (e ∷ es) zero d p h =
        let tie : R k e.0 ≡ Equal = subst (λ x. R k x ≡ Equal) (sym h) (tied_itself o k) in
        sym (ap (λ r. by_order r ((k, v) ∷ e ∷ es) ((e.0, v) ∷ es) (e ∷ put R k v es)) tie)
    set_here k v (e ∷ es) (suc i) d p h =
        ap (λ (l : List (K × X)). e ∷ l) (set_here k v es i d p.1 h)
        ∙ sym (ap (λ r. by_order r ((k, v) ∷ e ∷ es) ((e.0, v) ∷ es) (e ∷ put R k v es)) (past k e.0 p.0))

    abbrev others : K → List (K × X) → List (K × X)
    others k es = where_key R (λ x. not (eq_by_cmp R k x)) es

    all_others : (k : K) (es : List (K × X)) → T (below_all R k es) → others k es ≡ es
    all_others k [] h = refl
    all_others k (e ∷ es) h = ap (λ r. cond (not (is_eq r)) (e ∷ others k es) (others k es)) (less _ (first _ _ h))
        ∙ ap (λ (l : List (K × X)). e ∷ l) (all_others k es (second _ _ h))

    pub remove_here : (k : K) (es : List (K × X)) (i : ℕ) → T (is_sorted R es) → IsPlace (λ x. is_lt (R x k)) es i → HasKey k es i → remove es i ≡ others k es
    remove_here k [] i s p h = absurd h
    remove_here k (e ∷ es) zero s p h =
        let tie : R k e.0 ≡ Equal = subst (λ x. R k x ≡ Equal) (sym h) (tied_itself o k) in
        let rest : T (below_all R k es) = subst (λ x. T (below_all R x es)) h (first_below R e es s) in
        sym (ap (λ r. cond (not (is_eq r)) (e ∷ others k es) (others k es)) tie ∙ all_others k es rest)
    remove_here k (e ∷ es) (suc i) s p h =
        ap (λ (l : List (K × X)). e ∷ l) (remove_here k es i (rest_sorted R e es s) p.1 h)
        ∙ sym (ap (λ r. cond (not (is_eq r)) (e ∷ others k es) (others k es)) (past k e.0 p.0))

pub has_key_within : {K X : Type 0} (k : K) (es : List (K × X)) (i : ℕ) → HasKey k es i → i < length es
has_key_within k [] i h = absurd h
has_key_within k (e ∷ es) zero h = omega arith
has_key_within k (e ∷ es) (suc i) h = let rest = has_key_within k es i h in omega arith

pub has_key_is : {K X : Type 0} (k : K) (es : List (K × X)) (i : ℕ) (d : K × X) → i < length es → (slice_index_or es i d).0 ≡ k → HasKey k es i
has_key_is k [] i d l e = absurd (omega arith)
has_key_is k (x ∷ es) zero d l e = e
has_key_is k (x ∷ es) (suc i) d l e = has_key_is k es i d (omega arith) e

pub key_is : {K X : Type 0} (k : K) (es : List (K × X)) (i : ℕ) (d : K × X) → HasKey k es i → (slice_index_or es i d).0 ≡ k
key_is k [] i d h = absurd h
key_is k (e ∷ es) zero d h = h
key_is k (e ∷ es) (suc i) d h = key_is k es i d h
