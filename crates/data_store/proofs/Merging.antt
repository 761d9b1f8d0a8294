-- The keys of an interval under which something stands or did, one after the other, and what stood under them.
use Rattle.std.specs.Prelude.{◌≡◌, ◌≢◌, ◌⊎◌, ◌≤◌, ◌<◌, ◌+◌, ◌==◌, ℕ, zero, suc, Bool, true, false, cond, not, ◌&&◌, T, List, [], ◌∷◌, ◌++◌, map, Option, Some, None, IsSome, IfSome, if◌then◌else◌}
use Rattle.std.specs.Option.{option_map, option_map_or}
use Rattle.std.proofs.Common.{arith}
use Rattle.std.proofs.lemmas.Bool.Decides.{nat_tests}
use mathlib.Core.Path.{refl, sym, ap, subst, ◌∙◌}
use mathlib.Core.Logic.{inl, inr}
use Rattle.std.specs.FinMap.{FinMap, IsAntisymmetric, find, is_sorted, get, entries, get-entries, entries_sorted, nat_cmp-IsAntisymmetric}
use Rattle.std.specs.FinMap.Entries.{below_all}
use Rattle.std.specs.declared.cmp.Ordering.{Ordering}
use Rattle.std.specs.declared.cmp.Ordering.TheVariants.{Less, Equal, Greater}
use Rattle.std.specs.Ordering.{nat_cmp, is_eq, is_ge, is_gt, eq_by_cmp, ordering_then, ordering_reverse}
use Rattle.std.specs.Cmp.{IsTotalOrder, nat_cmp_total, nat_cmp_is, tied_itself}
use Rattle.std.specs.Cmp.Lexicographic.{nat_list_cmp_total}
use Rattle.iv_types.specs.declared.value.Value.{Value}
use Rattle.iv_types.specs.declared.catalog.TableDef.{TableDef}
use Rattle.iv_types.specs.Maps.{Map, Entry, first_where, entry_at}
use Rattle.table_laws.specs.Place.{Place, place_cmp}
use Rattle.table_laws.proofs.Place.{place_cmp_total, place_cmp-IsAntisymmetric}
use Rattle.table_laws.proofs.Tables.{by_bool}
use Rattle.spare_map.specs.Trees as places
use Rattle.table_store.specs.Stored.{Decode, before}
use Rattle.table_store.proofs.Places.{first, first_below, rest_sorted, less, below_less, below}
use Rattle.table_store.proofs.Maps.{by_bytes, bytes_same}
use Rattle.table_store.proofs.Walks.{rest_from, past, from, low_part, ended}
use Rattle.version_chain.specs.Versions.{place}
use Rattle.version_chain.specs.Chains.{is_of, is_empty, row_at, IsUpTo, HasUpTo}
use Rattle.version_chain.proofs.Around.{less_up_to}
use Rattle.data_store.specs.Past.{Pendings, RowVersions, committed_value, value_at, IsMapAt, entry_of, IsKnown, IsLeast, lesser}
use Rattle.data_store.specs.declared.store.Pending.{Pending}

abbrev Key : Type 0
Key = List ℕ

turn : (x y : Key) (r : Ordering) → by_bytes x y ≡ r → by_bytes y x ≡ ordering_reverse r
turn x y r e = nat_list_cmp_total.antisymm y x ∙ ap ordering_reverse e

-- ---- the key behind a key

one_behind : (k x : Key) → is_ge (by_bytes x (k ++ 0 ∷ [])) ≡ is_gt (by_bytes x k)
one_behind [] [] = refl
one_behind [] (zero ∷ []) = refl
one_behind [] (zero ∷ x ∷ xs) = refl
one_behind [] (suc n ∷ xs) = rw (sym (nat_cmp_is (suc n) 0 Greater (omega arith))) refl
one_behind (k ∷ ks) [] = refl
one_behind (k ∷ ks) (x ∷ xs) = elim (nat_cmp x k) as (λ r. is_ge (ordering_then r (by_bytes xs (ks ++ 0 ∷ []))) ≡ is_gt (ordering_then r (by_bytes xs ks))) [
  | Less ↦ refl
  | Equal ↦ one_behind ks xs
  | Greater ↦ refl
]

pub behind : (k : Key) (es : List Entry) → rest_from (from (k ++ 0 ∷ [])) es ≡ rest_from (past k) es
behind k [] = refl
behind k (e ∷ es) = ap (λ b. cond b (e ∷ es) (rest_from (from (k ++ 0 ∷ [])) es)) (one_behind k e.0) ∙ ap (λ (l : List Entry). cond (past k e.0) (e ∷ es) l) (behind k es)

-- ---- what is left of sorted entries

all_past : (k : Key) (es : List Entry) → T (below_all by_bytes k es) → rest_from (past k) es ≡ es
all_past k [] h = refl
all_past k (e ∷ es) h = ap (λ b. cond b (e ∷ es) (rest_from (past k) es)) (ap is_gt (turn k e.0 Less (less _ (first _ _ h))))

found_later : (x : Key) (e : Entry) (es : List Entry) → IsSome (find by_bytes x es) → IsSome (find by_bytes x (e ∷ es))
found_later x e es h = elim (eq_by_cmp by_bytes x e.0) as (λ b. IsSome (cond b (Some e.1) (find by_bytes x es))) [ true ↦ refl | false ↦ h ]

found_itself : (e : Entry) (es : List Entry) → find by_bytes e.0 (e ∷ es) ≡ Some e.1
found_itself e es = ap (λ r. cond (is_eq r) (Some e.1) (find by_bytes e.0 es)) (tied_itself nat_list_cmp_total e.0)

up_from : (f x : Key) → IsUpTo f x → from f x ≡ true
up_from f x up = by (by_bytes f x) refl
  where
    by : (r : Ordering) → by_bytes f x ≡ r → is_ge (by_bytes x f) ≡ true
    by Less is = ap is_ge (turn f x Less is)
    by Equal is = ap is_ge (turn f x Equal is)
    by Greater is = absurd (up is)

from_up : (f x : Key) → from f x ≡ true → IsUpTo f x
from_up f x passes g = let bad : false ≡ true = sym (ap is_ge (turn f x Greater g)) ∙ passes in cc

-- the entries from a key on, where the least key of them is told
pub cut : (f k : Key) (es : List Entry) → T (is_sorted by_bytes es) → IsUpTo f k → ((x : Key) → IsSome (find by_bytes x es) → IsUpTo f x → IsUpTo k x)
    → rest_from (from f) es ≡ entry_of k (find by_bytes k es) ++ rest_from (past k) es
cut f k [] s up least = refl
cut f k (e ∷ es) s up least = by (by_bytes e.0 f) (by_bytes k e.0) refl refl (cut f k es (rest_sorted by_bytes e es s) up (λ x there. least x (found_later x e es there)))
  where
    here : (by_bytes f e.0 ≢ Greater) → from f e.0 ≡ true → (z : Ordering) → by_bytes k e.0 ≡ z → rest_from (from f) (e ∷ es) ≡ entry_of k (find by_bytes k (e ∷ es)) ++ rest_from (past k) (e ∷ es)
    here up passes Less at =
        let none : find by_bytes k es ≡ None = below nat_list_cmp_total bytes_same k es (below_less nat_list_cmp_total bytes_same k e.0 es at (first_below by_bytes e es s)) in
        rw passes (rw at (rw none (rw (turn k e.0 Less at) refl)))
    here up passes Equal at =
        let same : k ≡ e.0 = bytes_same k e.0 at in
        rw passes (rw at (rw (turn k e.0 Equal at) (ap (λ (l : List Entry). e ∷ l) (sym (all_past k es (subst (λ (x : Key). T (below_all by_bytes x es)) (sym same) (first_below by_bytes e es s))))
        ∙ ap (λ (x : Key). (x, e.1) ∷ rest_from (past k) es) (sym same))))
    here up passes Greater at = absurd (least e.0 (subst (λ (o : Option Key). IsSome o) (sym (found_itself e es)) refl) up at)

    by : (w z : Ordering) → by_bytes e.0 f ≡ w → by_bytes k e.0 ≡ z → rest_from (from f) es ≡ entry_of k (find by_bytes k es) ++ rest_from (past k) es
        → rest_from (from f) (e ∷ es) ≡ entry_of k (find by_bytes k (e ∷ es)) ++ rest_from (past k) (e ∷ es)
    by Less z is at rest =
        let lt : by_bytes e.0 k ≡ Less = less_up_to nat_list_cmp_total e.0 f k is up in
        rw is (rw (turn e.0 k Less lt) (rw lt rest))
    by Equal z is at rest = here (λ g. let bad : Equal ≡ Greater = sym (turn e.0 f Equal is) ∙ g in cc) (ap is_ge is) z at
    by Greater z is at rest = here (λ g. let bad : Less ≡ Greater = sym (turn e.0 f Greater is) ∙ g in cc) (ap is_ge is) z at

pub none_left : (f : Key) (es : List Entry) → ((x : Key) → IsSome (find by_bytes x es) → IsUpTo f x → ⊥) → rest_from (from f) es ≡ []
none_left f [] h = refl
none_left f (e ∷ es) h = by (by_bytes e.0 f) refl (none_left f es (λ x there. h x (found_later x e es there)))
  where
    here : IsUpTo f e.0 → ⊥
    here up = h e.0 (subst (λ (o : Option Key). IsSome o) (sym (found_itself e es)) refl) up

    by : (w : Ordering) → by_bytes e.0 f ≡ w → rest_from (from f) es ≡ [] → rest_from (from f) (e ∷ es) ≡ []
    by Less is rest = rw is rest
    by Equal is rest = absurd (here (λ g. let bad : Equal ≡ Greater = sym (turn e.0 f Equal is) ∙ g in cc))
    by Greater is rest = absurd (here (λ g. let bad : Less ≡ Greater = sym (turn e.0 f Greater is) ∙ g in cc))

-- ---- the least of two sources

either : {A B C : Type 0} → (A → C) → (B → C) → A ⊎ B → C
either f g (inl a) = f a
either f g (inr b) = g b

up_chain : (a b c : Key) → IsUpTo a b → IsUpTo b c → IsUpTo a c
up_chain a b c ab bc g = by (by_bytes a b) refl
  where
    by : (r : Ordering) → by_bytes a b ≡ r → ⊥
    by Less is = let lt : by_bytes a c ≡ Less = less_up_to nat_list_cmp_total a b c is bc in let bad : Less ≡ Greater = sym lt ∙ g in cc
    by Equal is = bc (sym (ap (λ (x : Key). by_bytes x c) (bytes_same a b is)) ∙ g)
    by Greater is = ab is

module _ (P Q : Key → Type 0) (key : Key) where
  pub lesser_is : (one other : Option Key) → IsLeast P key one → IsLeast Q key other → IsLeast (λ k. P k ⊎ Q k) key (lesser one other)
  lesser_is None None a b = record { held = tt; least = λ k up h. either (a.least k up) (b.least k up) h }
  lesser_is None (Some y) a b = record { held = (b.held.0, inr b.held.1); least = λ k up h. either (λ p. absurd (a.least k up p)) (b.least k up) h }
  lesser_is (Some x) None a b = record { held = (a.held.0, inl a.held.1); least = λ k up h. either (a.least k up) (λ q. absurd (b.least k up q)) h }
  lesser_is (Some x) (Some y) a b = by (by_bytes x y) refl
    where
      first_one : (by_bytes x y ≢ Greater) → IsLeast (λ k. P k ⊎ Q k) key (Some x)
      first_one n = record { held = (a.held.0, inl a.held.1); least = λ k up h. either (a.least k up) (λ q. up_chain x y k n (b.least k up q)) h }

      other_one : (by_bytes y x ≢ Greater) → IsLeast (λ k. P k ⊎ Q k) key (Some y)
      other_one n = record { held = (b.held.0, inr b.held.1); least = λ k up h. either (λ p. up_chain y x k n (a.least k up p)) (b.least k up) h }

      by : (r : Ordering) → by_bytes x y ≡ r → IsLeast (λ k. P k ⊎ Q k) key (if is_gt (by_bytes x y) then Some y else Some x)
      by Less is = rw is (first_one (λ g. let bad : Less ≡ Greater = sym is ∙ g in cc))
      by Equal is = rw is (first_one (λ g. let bad : Equal ≡ Greater = sym is ∙ g in cc))
      by Greater is = rw is (other_one (λ g. let bad : Less ≡ Greater = sym (turn x y Greater is) ∙ g in cc))

-- ---- the first of sorted entries

-- there is one, and it is not behind another one
abbrev pub IsFound : {K : Type 0} → (K → K → Ordering) → Option K → K → Type 0
IsFound R None k = ⊥
IsFound R (Some f) k = R f k ≢ Greater

module _ {K X : Type 0} (R : K → K → Ordering) (o : IsTotalOrder R) (same : IsAntisymmetric R) (test : K → Bool) where
  -- the first key that passes
  abbrev pub first_key : List (K × X) → Option K
  first_key [] = None
  first_key (e ∷ es) = if test e.0 then Some e.0 else first_key es

  later : (k : K) (e : K × X) (es : List (K × X)) → IsSome (find R k es) → IsSome (find R k (e ∷ es))
  later k e es h = elim (eq_by_cmp R k e.0) as (λ b. IsSome (cond b (Some e.1) (find R k es))) [ true ↦ refl | false ↦ h ]

  itself : (e : K × X) (es : List (K × X)) → IsSome (find R e.0 (e ∷ es))
  itself e es = subst (λ r. IsSome (cond (is_eq r) (Some e.1) (find R e.0 es))) (sym (tied_itself o e.0)) refl

  still : (e : K × X) (es : List (K × X)) (f : Option K) → IfSome f (λ k. (test k ≡ true) × IsSome (find R k es)) → IfSome f (λ k. (test k ≡ true) × IsSome (find R k (e ∷ es)))
  still e es None h = tt
  still e es (Some k) h = (h.0, later k e es h.1)

  pub first_held : (es : List (K × X)) → IfSome (first_key es) (λ k. (test k ≡ true) × IsSome (find R k es))
  first_held [] = tt
  first_held (e ∷ es) = by (test e.0) refl (first_held es)
    where
      by : (b : Bool) → test e.0 ≡ b → IfSome (first_key es) (λ k. (test k ≡ true) × IsSome (find R k es)) → IfSome (first_key (e ∷ es)) (λ k. (test k ≡ true) × IsSome (find R k (e ∷ es)))
      by true is rest = rw is (is, itself e es)
      by false is rest = rw is (still e es (first_key es) rest)

  pub first_least : (k : K) → test k ≡ true → (es : List (K × X)) → T (is_sorted R es) → IsSome (find R k es) → IsFound R (first_key es) k
  first_least k t [] s h = absurd (cc)
  first_least k t (e ∷ es) s h = by (R k e.0) (test e.0) refl refl (first_least k t es (rest_sorted R e es s))
    where
      by : (w : Ordering) (b : Bool) → R k e.0 ≡ w → test e.0 ≡ b → (IsSome (find R k es) → IsFound R (first_key es) k) → IsFound R (first_key (e ∷ es)) k
      by Less b is passes rest =
          let none : find R k es ≡ None = below o same k es (below_less o same k e.0 es is (first_below R e es s)) in
          let here : find R k (e ∷ es) ≡ None = rw is none in
          let bad : IsSome {T = X} None = subst (λ (x : Option X). IsSome x) here h in
          absurd (cc)
      by Equal true is passes rest = rw passes (λ g. let bad : Equal ≡ Greater = sym (o.antisymm e.0 k ∙ ap ordering_reverse is) ∙ g in cc)
      by Equal false is passes rest = absurd (let yes : test e.0 ≡ true = sym (ap test (same k e.0 is)) ∙ t in let bad : true ≡ false = sym yes ∙ passes in cc)
      by Greater true is passes rest = rw passes (λ g. let bad : Less ≡ Greater = sym (o.antisymm e.0 k ∙ ap ordering_reverse is) ∙ g in cc)
      by Greater false is passes rest = rw passes (rest (subst (λ (r : Ordering). IsSome (cond (is_eq r) (Some e.1) (find R k es))) is h))

-- ---- what the sources have

first_entry : (test : Key → Bool) (es : List Entry) → option_map (λ e. e.0) (first_where test es) ≡ first_key by_bytes nat_list_cmp_total bytes_same test es
first_entry test [] = refl
first_entry test (e ∷ es) = elim (test e.0) as (λ b. option_map (λ (x : Entry). x.0) (cond b (Some e) (first_where test es)) ≡ cond b (Some e.0) (first_key by_bytes nat_list_cmp_total bytes_same test es)) [ true ↦ refl | false ↦ first_entry test es ]

-- the first entry of a map from a key on
pub entry_least : (m : Map) (key : Key) → IsLeast (λ k. IsSome (get m k)) key (option_map (λ e. e.0) (entry_at m key))
entry_least m key = subst (IsLeast (λ k. IsSome (get m k)) key) (sym (first_entry (from key) (entries m))) (record {
  held = there (first_key by_bytes nat_list_cmp_total bytes_same (from key) (entries m)) (first_held by_bytes nat_list_cmp_total bytes_same (from key) (entries m));
  least = λ k up h. found (first_key by_bytes nat_list_cmp_total bytes_same (from key) (entries m)) k
      (first_least by_bytes nat_list_cmp_total bytes_same (from key) k (up_from key k up) (entries m) (entries_sorted m) (subst (λ (o : Option Key). IsSome o) (get-entries m k) h));
})
  where
    there : (f : Option Key) → IfSome f (λ k. (from key k ≡ true) × IsSome (find by_bytes k (entries m))) → IfSome f (λ k. IsUpTo key k × IsSome (get m k))
    there None h = tt
    there (Some k) h = (from_up key k h.0, subst (λ (o : Option Key). IsSome o) (sym (get-entries m k)) h.1)

    found : (f : Option Key) (k : Key) → IsFound by_bytes f k → HasUpTo f k
    found None k h = h
    found (Some x) k h = h

-- the key of a place, if it is one of an index
abbrev pub key_in : ℕ → Option Place → Option Key
key_in i None = None
key_in i (Some p) = if p.0 == i then Some p.1 else None

first_place : {X : Type 0} (test : Place → Bool) (es : List (Place × X)) → option_map (λ e. e.0) (places.first_where test es) ≡ first_key place_cmp place_cmp_total place_cmp-IsAntisymmetric test es
first_place test [] = refl
first_place {X = X} test (e ∷ es) = elim (test e.0) as (λ b. option_map (λ (x : Place × X). x.0) (cond b (Some e) (places.first_where test es)) ≡ cond b (Some e.0) (first_key place_cmp place_cmp_total place_cmp-IsAntisymmetric test es)) [
  | true ↦ refl
  | false ↦ first_place test es
]

-- of one index the key decides
by_key : (i : ℕ) (k l : Key) → place_cmp (i, k) (i, l) ≡ by_bytes k l
by_key i k l = ap (λ w. ordering_then w (by_bytes k l)) (tied_itself nat_cmp_total i)

same_index : (i j : ℕ) (k l m : Key) → place_cmp (i, k) (j, m) ≢ Greater → place_cmp (j, m) (i, l) ≢ Greater → j ≡ i
same_index i j k l m from to = nat_cmp-IsAntisymmetric j i (by (nat_cmp j i) refl)
  where
    by : (w : Ordering) → nat_cmp j i ≡ w → nat_cmp j i ≡ Equal
    by Less is = absurd (from (ap (λ w. ordering_then w (by_bytes k m)) (nat_cmp_total.antisymm i j ∙ ap ordering_reverse is)))
    by Equal is = is
    by Greater is = absurd (to (ap (λ w. ordering_then w (by_bytes m l)) is))

-- the first place of a map from a place on
pub place_least : {X : Type 0} (m : FinMap place_cmp X) (i : ℕ) (key : Key)
    → IsLeast (λ k. IsSome (get m (i, k))) key (key_in i (option_map (λ e. e.0) (places.first_where (places.is_from false (i, key)) (entries m))))
place_least {X = X} m i key = subst (λ (p : Option Place). IsLeast (λ k. IsSome (get m (i, k))) key (key_in i p)) (sym (first_place (places.is_from false (i, key)) (entries m)))
    (by (first_key place_cmp place_cmp_total place_cmp-IsAntisymmetric (places.is_from false (i, key)) (entries m)) (first_held place_cmp place_cmp_total place_cmp-IsAntisymmetric (places.is_from false (i, key)) (entries m))
    (λ k up h. first_least place_cmp place_cmp_total place_cmp-IsAntisymmetric (places.is_from false (i, key)) (i, k) (passes k up) (entries m) (entries_sorted m) (subst (λ (o : Option X). IsSome o) (get-entries m (i, k)) h)))
  where
    passes : (k : Key) → IsUpTo key k → places.is_from false (i, key) (i, k) ≡ true
    passes k up = by (place_cmp (i, key) (i, k)) refl
      where
        by : (w : Ordering) → place_cmp (i, key) (i, k) ≡ w → not (is_gt (place_cmp (i, key) (i, k))) ≡ true
        by Less is = rw is refl
        by Equal is = rw is refl
        by Greater is = absurd (up (sym (by_key i key k) ∙ is))

    only : (p : Place) → places.is_from false (i, key) p ≡ true → place_cmp (i, key) p ≢ Greater
    only p t g = let bad : false ≡ true = subst (λ w. not (is_gt w) ≡ true) g t in cc

    by : (f : Option Place) → IfSome f (λ p. (places.is_from false (i, key) p ≡ true) × IsSome (find place_cmp p (entries m)))
        → ((k : Key) → IsUpTo key k → IsSome (get m (i, k)) → IsFound place_cmp f (i, k))
        → IsLeast (λ k. IsSome (get m (i, k))) key (key_in i f)
    by None held least = record { held = tt; least = least }
    by (Some p) held least = by_bool (p.0 == i)
        (λ is.
        let number : p.0 ≡ i = grind (arith, nat_tests) in
        let at : p ≡ (i, p.1) = ap (λ (j : ℕ). (j, p.1)) number in
        rw is (record {
          held = (λ g. only p held.0 (ap (place_cmp (i, key)) at ∙ (by_key i key p.1 ∙ g)), subst (λ (q : Place). IsSome (get m q)) at (subst (λ (x : Option X). IsSome x) (sym (get-entries m p)) held.1));
          least = λ k up h g. least k up h (ap (λ (q : Place). place_cmp q (i, k)) at ∙ (by_key i p.1 k ∙ g));
        }))
        (λ is.
        let apart : p.0 ≢ i = grind (arith, nat_tests) in
        rw is (record { held = tt; least = λ k up h. apart (same_index i p.0 key k p.1 (only p held.0) (least k up h)) }))

-- ---- what stood is known

as_now : (n : ℕ) (p : Place) (now : Option Key) (vs : RowVersions) → is_empty p vs ≡ true → row_at n p now vs ≡ now
as_now n p now [] e = refl
as_now n p now (v ∷ vs) e = by (is_of p v) refl e (λ x. as_now n p now vs x)
  where
    by : (b : Bool) → is_of p v ≡ b → is_empty p (v ∷ vs) ≡ true → (is_empty p vs ≡ true → row_at n p now vs ≡ now) → row_at n p now (v ∷ vs) ≡ now
    by true is e rest = absurd (let bad : false ≡ true = subst (λ b. (not b && is_empty p vs) ≡ true) is e in cc)
    by false is e rest = rw is (rest (subst (λ b. (not b && is_empty p vs) ≡ true) is e))

-- a key under which something stood at a number is known
pub stood_known : (n : ℕ) (versions : RowVersions) (pending : Pendings) (maps : ℕ → Map) (i : ℕ) (k : Key) → IsSome (value_at n versions pending maps (i, k)) → IsKnown versions pending maps i k
stood_known n versions pending maps i k h = by (is_empty (i, k) versions) refl
  where
    stands : (o : Option Pending) → get pending (i, k) ≡ o → IsSome (option_map_or (λ p. p.committed) o (get (maps i) k)) → IsSome (get (maps i) k) ⊎ IsSome (get pending (i, k))
    stands None is there = inl there
    stands (Some p) is there = inr (subst (λ (o : Option Pending). IsSome o) (sym is) refl)

    by : (b : Bool) → is_empty (i, k) versions ≡ b → IsKnown versions pending maps i k
    by false is = inr is
    by true is = inl (stands (get pending (i, k)) refl (subst (λ (o : Option Key). IsSome o) (as_now n (i, k) (committed_value pending maps (i, k)) versions is) h))

-- ---- how many are left

-- so many of some keys are from a key on
abbrev pub so_many : (Key → Bool) → List Key → ℕ
so_many test [] = 0
so_many test (k ∷ ks) = (if test k then 1 else 0) + so_many test ks

-- a key is one of some
abbrev pub IsOne : Key → List Key → Type 0
IsOne k [] = ⊥
IsOne k (x ∷ xs) = (k ≡ x) ⊎ IsOne k xs

fewer_each : (f k x : Key) → IsUpTo f k → cond (from (k ++ 0 ∷ []) x) 1 0 ≤ cond (from f x) 1 0
fewer_each f k x up = by (by_bytes x k) refl
  where
    passing : (r : Ordering) → by_bytes x k ≡ r → from (k ++ 0 ∷ []) x ≡ is_gt r
    passing r is = one_behind k x ∙ ap is_gt is

    by : (r : Ordering) → by_bytes x k ≡ r → cond (from (k ++ 0 ∷ []) x) 1 0 ≤ cond (from f x) 1 0
    by Less is = rw (passing Less is) (omega arith)
    by Equal is = rw (passing Equal is) (omega arith)
    by Greater is = rw (passing Greater is) (rw (up_from f x (up_chain f k x up (λ g. let bad : Less ≡ Greater = sym (turn x k Greater is) ∙ g in cc))) (omega arith))

pub no_more : (f k : Key) → IsUpTo f k → (ks : List Key) → so_many (from (k ++ 0 ∷ [])) ks ≤ so_many (from f) ks
no_more f k up [] = omega arith
no_more f k up (x ∷ ks) = let one = fewer_each f k x up in let rest = no_more f k up ks in omega (arith, one, rest)

pub fewer : (f k : Key) → IsUpTo f k → (ks : List Key) → IsOne k ks → so_many (from (k ++ 0 ∷ [])) ks < so_many (from f) ks
fewer f k up [] h = absurd h
fewer f k up (x ∷ ks) (inl is) =
    let gone : ◌≡◌ {A = ℕ} (cond (from (k ++ 0 ∷ []) x) 1 0) 0 = ap (λ b. cond b 1 0) (one_behind k x ∙ (ap (λ (y : Key). is_gt (by_bytes y k)) (sym is) ∙ ap is_gt (tied_itself nat_list_cmp_total k))) in
    let was : ◌≡◌ {A = ℕ} (cond (from f x) 1 0) 1 = ap (λ b. cond b 1 0) (up_from f x (subst (IsUpTo f) is up)) in
    let rest = no_more f k up ks in
    omega (arith, gone, was, rest)
fewer f k up (x ∷ ks) (inr h) = let one = fewer_each f k x up in let rest = fewer f k up ks h in omega (arith, one, rest)

-- the keys of all sources
abbrev pub all_keys : RowVersions → Pendings → Map → List Key
all_keys versions pending m = map (λ e. e.0) (entries m) ++ (map (λ e. e.0.1) (entries pending) ++ map (λ v. (place v).1) versions)

one_left : (k : Key) (xs ys : List Key) → IsOne k xs → IsOne k (xs ++ ys)
one_left k [] ys h = absurd h
one_left k (x ∷ xs) ys (inl e) = inl e
one_left k (x ∷ xs) ys (inr h) = inr (one_left k xs ys h)

one_right : (k : Key) (xs ys : List Key) → IsOne k ys → IsOne k (xs ++ ys)
one_right k [] ys h = h
one_right k (x ∷ xs) ys h = inr (one_right k xs ys h)

one_found : {K X : Type 0} (R : K → K → Ordering) (same : IsAntisymmetric R) (key : K → Key) (q : K) (es : List (K × X)) → IsSome (find R q es) → IsOne (key q) (map (λ (e : K × X). key e.0) es)
one_found R same key q [] h = absurd (cc)
one_found {K = K} {X = X} R same key q (e ∷ es) h = by (R q e.0) refl (one_found R same key q es)
  where
    by : (w : Ordering) → R q e.0 ≡ w → (IsSome (find R q es) → IsOne (key q) (map (λ (x : K × X). key x.0) es)) → IsOne (key q) (map (λ (x : K × X). key x.0) (e ∷ es))
    by Less is rest = inr (rest (subst (λ r. IsSome (cond (is_eq r) (Some e.1) (find R q es))) is h))
    by Equal is rest = inl (ap key (same q e.0 is))
    by Greater is rest = inr (rest (subst (λ r. IsSome (cond (is_eq r) (Some e.1) (find R q es))) is h))

one_version : (p : Place) (vs : RowVersions) → is_empty p vs ≡ false → IsOne p.1 (map (λ v. (place v).1) vs)
one_version p [] h = absurd (cc)
one_version p (v ∷ vs) h = by (place_cmp p (place v)) refl (one_version p vs)
  where
    by : (w : Ordering) → place_cmp p (place v) ≡ w → (is_empty p vs ≡ false → IsOne p.1 (map (λ v. (place v).1) vs)) → IsOne p.1 (map (λ v. (place v).1) (v ∷ vs))
    by Less is rest = inr (rest (subst (λ r. (not (is_eq r) && is_empty p vs) ≡ false) is h))
    by Equal is rest = inl (ap (λ (q : Place). q.1) (place_cmp-IsAntisymmetric p (place v) is))
    by Greater is rest = inr (rest (subst (λ r. (not (is_eq r) && is_empty p vs) ≡ false) is h))

pub known_one : (versions : RowVersions) (pending : Pendings) (maps : ℕ → Map) (i : ℕ) (k : Key) → IsKnown versions pending maps i k → IsOne k (all_keys versions pending (maps i))
known_one versions pending maps i k (inl (inl h)) = one_left k _ _ (one_found by_bytes bytes_same (λ x. x) k (entries (maps i)) (subst (λ (o : Option Key). IsSome o) (get-entries (maps i) k) h))
known_one versions pending maps i k (inl (inr h)) =
    one_right k (map (λ e. e.0) (entries (maps i))) _ (one_left k _ _ (one_found place_cmp place_cmp-IsAntisymmetric (λ x. x.1) (i, k) (entries pending) (subst (λ (o : Option Pending). IsSome o) (get-entries pending (i, k)) h)))
known_one versions pending maps i k (inr h) = one_right k (map (λ e. e.0) (entries (maps i))) _ (one_right k (map (λ e. e.0.1) (entries pending)) _ (one_version (i, k) versions h))

-- ---- a step of the walk

module _ (n : ℕ) (versions : RowVersions) (pending : Pendings) (maps : ℕ → Map) (i : ℕ) (m : Map) (is : IsMapAt n versions pending maps i m) where
  known : (x : Key) → IsSome (find by_bytes x (entries m)) → IsKnown versions pending maps i x
  known x h = stood_known n versions pending maps i x (subst (λ (o : Option Key). IsSome o) (sym (get-entries m x) ∙ is x) h)

  pub walked : (f k : Key) → IsLeast (IsKnown versions pending maps i) f (Some k)
      → rest_from (from f) (entries m) ≡ entry_of k (value_at n versions pending maps (i, k)) ++ rest_from (from (k ++ 0 ∷ [])) (entries m)
  walked f k l =
      cut f k (entries m) (entries_sorted m) l.held.0 (λ x there up. l.least x up (known x there))
      ∙ (ap (λ (o : Option Key). entry_of k o ++ rest_from (past k) (entries m)) (sym (get-entries m k) ∙ is k)
      ∙ ap (λ (l : List Entry). entry_of k (value_at n versions pending maps (i, k)) ++ l) (sym (behind k (entries m))))

  pub walk_done : (f : Key) → IsLeast (IsKnown versions pending maps i) f None → rest_from (from f) (entries m) ≡ []
  walk_done f l = none_left f (entries m) (λ x there up. l.least x up (known x there))

  -- of keys in order, where one is not before the end none behind it is
  pub walk_ended : (high : Option Key) (f k : Key) → IsLeast (IsKnown versions pending maps i) f (Some k) → before high k ≡ false → low_part high (rest_from (from f) (entries m)) ≡ []
  walk_ended high f k l fails = ap (low_part high) (walked f k l) ∙ by (value_at n versions pending maps (i, k))
    where
      none : low_part high (rest_from (from (k ++ 0 ∷ [])) (entries m)) ≡ []
      none = ap (low_part high) (behind k (entries m)) ∙ (sym (ap (λ b. cond b ((k, []) ∷ low_part high (rest_from (past k) (entries m))) (low_part high (rest_from (past k) (entries m)))) fails) ∙ ended m high (k, []) fails)

      by : (o : Option Key) → low_part high (entry_of k o ++ rest_from (from (k ++ 0 ∷ [])) (entries m)) ≡ []
      by None = none
      by (Some v) = rw fails none

pub low_entry : (high : Option Key) (k : Key) (o : Option Key) (es : List Entry) → before high k ≡ true → low_part high (entry_of k o ++ es) ≡ entry_of k o ++ low_part high es
low_entry high k None es passes = refl
low_entry high k (Some v) es passes = rw passes refl

pub decode_both : (t : TableDef) (es fs : List Entry) (here rest : List (List Value)) → Decode t es here → Decode t fs rest → Decode t (es ++ fs) (here ++ rest)
decode_both t [] fs [] rest a b = b
decode_both t [] fs (row ∷ here) rest a b = absurd a
decode_both t (e ∷ es) fs [] rest a b = absurd a
decode_both t (e ∷ es) fs (row ∷ here) rest a b = (a.0, a.1, decode_both t es fs here rest a.2 b)
