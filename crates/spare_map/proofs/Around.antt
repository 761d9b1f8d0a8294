-- What holds of a list in the order of its places holds of its parts around one entry.
use Rattle.std.specs.Prelude.{◌≢◌, Bool, true, false, cond, [], Option, ◌≡◌, ◌<◌, T, List, ◌∷◌, ◌++◌, length, Some}
use mathlib.Core.Path.{refl, sym, subst, ap, ◌∙◌}
use Rattle.std.proofs.Common.{arith, length-append}
use Rattle.std.specs.declared.cmp.Ordering.{Ordering}
use Rattle.std.specs.Ordering.{ordering_reverse}
use Rattle.std.specs.declared.cmp.Ordering.TheVariants.{Less, Equal, Greater}
use Rattle.std.specs.FinMap.{find, put, is_sorted}
use Rattle.table_laws.specs.Place.{Place, place_cmp}
use Rattle.table_laws.proofs.Place.{place_cmp_total}
use Rattle.spare_map.specs.declared.tree.Tree.{Tree}
use Rattle.spare_map.specs.declared.tree.Node.{Node}
use Rattle.spare_map.specs.Trees.{items, own, without, first_where, is_from}
use Rattle.spare_map.proofs.Lists as lists
use Rattle.spare_map.proofs.Lists.{or_else}

module _ {V : Type 0} (k : Place) (t l r : List (Place × V)) (e : Place × V) (is : t ≡ l ++ e ∷ r) where
  pub fewer_left : length l < length t
  fewer_left = let n = ap length is ∙ length-append l (e ∷ r) in omega (arith, n)

  pub fewer_right : length r < length t
  fewer_right = let n = ap length is ∙ length-append l (e ∷ r) in omega (arith, n)

  module _ (sorted : T (is_sorted place_cmp t)) where
    parts : T (is_sorted place_cmp (l ++ e ∷ r))
    parts = subst (λ x. T (is_sorted place_cmp x)) is sorted

    pub sorted_left : T (is_sorted place_cmp l)
    sorted_left = lists.sorted_left place_cmp_total l (e ∷ r) parts

    pub sorted_right : T (is_sorted place_cmp r)
    sorted_right = lists.sorted_behind place_cmp_total l r e parts

    pub find_left : place_cmp k e.0 ≡ Less → find place_cmp k t ≡ find place_cmp k l
    find_left lt = ap (find place_cmp k) is ∙ lists.find_left place_cmp_total k l r e parts lt

    pub find_right : place_cmp k e.0 ≡ Greater → find place_cmp k t ≡ find place_cmp k r
    find_right g = ap (find place_cmp k) is ∙ lists.find_right place_cmp_total k l r e parts g

    pub find_here : place_cmp k e.0 ≡ Equal → find place_cmp k t ≡ Some e.1
    find_here same = ap (find place_cmp k) is ∙ lists.find_here place_cmp_total k l r e parts same

    pub put_left : (v : V) → place_cmp k e.0 ≡ Less → put place_cmp k v t ≡ put place_cmp k v l ++ e ∷ r
    put_left v lt = ap (put place_cmp k v) is ∙ lists.put_left place_cmp_total k v l r e lt

    pub put_right : (v : V) → place_cmp k e.0 ≡ Greater → put place_cmp k v t ≡ l ++ e ∷ put place_cmp k v r
    put_right v g = ap (put place_cmp k v) is ∙ lists.put_right place_cmp_total k v l r e parts g

    pub put_here : (v : V) → place_cmp k e.0 ≡ Equal → put place_cmp k v t ≡ l ++ (e.0, v) ∷ r
    put_here v same = ap (put place_cmp k v) is ∙ lists.put_here place_cmp_total k v l r e parts same

    pub without_left : place_cmp k e.0 ≡ Less → without k t ≡ without k l ++ e ∷ r
    without_left lt = ap (without k) is ∙ lists.without_left place_cmp_total k l r e parts lt

    pub without_right : place_cmp k e.0 ≡ Greater → without k t ≡ l ++ e ∷ without k r
    without_right g = ap (without k) is ∙ lists.without_right place_cmp_total k l r e parts g

    pub without_here : place_cmp k e.0 ≡ Equal → without k t ≡ l ++ r
    without_here same = ap (without k) is ∙ lists.without_here place_cmp_total k l r e parts same

module _ {V : _} (n : Node V) (t : Tree V) (is : items t ≡ items n.left ++ own n ∷ items n.right) (sorted : T (is_sorted place_cmp (items t))) where
  pub left_sorted : T (is_sorted place_cmp (items n.left))
  left_sorted = lists.sorted_left place_cmp_total (items n.left) (own n ∷ items n.right) (subst (λ x. T (is_sorted place_cmp x)) is sorted)

  pub right_sorted : T (is_sorted place_cmp (items n.right))
  right_sorted = lists.sorted_behind place_cmp_total (items n.left) (items n.right) (own n) (subst (λ x. T (is_sorted place_cmp x)) is sorted)

-- ---- the first from a place on

first_left : {X : Type 0} (test : Place → Bool) (l r : List (Place × X)) (e : Place × X) (best : Option (Place × X)) → test e.0 ≡ true
    → or_else (first_where test (l ++ e ∷ r)) best ≡ or_else (first_where test l) (Some e)
first_left test [] r e best h = rw h refl
first_left test (x ∷ l) r e best h = elim (test x.0) as (λ b. or_else (cond b (Some x) (first_where test (l ++ e ∷ r))) best ≡ or_else (cond b (Some x) (first_where test l)) (Some e)) [
  | true ↦ refl
  | false ↦ first_left test l r e best h
]

before_fails : (past : Bool) (k x e : Place) → place_cmp x e ≡ Less → is_from past k e ≡ false → is_from past k x ≡ false
before_fails past k x e lt fails = by past (place_cmp k e) refl fails
  where
    back : (w : Ordering) → place_cmp k e ≡ w → w ≢ Less → place_cmp k x ≡ Greater
    back Less is ne = absurd (ne refl)
    back Equal is ne = sym (place_cmp_total.congr e k x (place_cmp_total.antisymm e k ∙ ap ordering_reverse is)) ∙ (place_cmp_total.antisymm e x ∙ ap ordering_reverse lt)
    back Greater is ne = place_cmp_total.antisymm k x ∙ ap ordering_reverse (place_cmp_total.trans x e k lt (place_cmp_total.antisymm e k ∙ ap ordering_reverse is))

    by : (past : Bool) (w : Ordering) → place_cmp k e ≡ w → is_from past k e ≡ false → is_from past k x ≡ false
    by true Less is f = absurd (cc)
    by true Equal is f = rw (back Equal is (λ z. absurd (cc))) refl
    by true Greater is f = rw (back Greater is (λ z. absurd (cc))) refl
    by false Less is f = absurd (cc)
    by false Equal is f = absurd (cc)
    by false Greater is f = rw (back Greater is (λ z. absurd (cc))) refl

first_behind : {X : Type 0} (past : Bool) (k : Place) (l r : List (Place × X)) (e : Place × X) → T (is_sorted place_cmp (l ++ e ∷ r)) → is_from past k e.0 ≡ false
    → first_where (is_from past k) (l ++ e ∷ r) ≡ first_where (is_from past k) r
first_behind past k [] r e h fails = rw fails refl
first_behind past k (x ∷ l) r e h fails =
    let here : is_from past k x.0 ≡ false = before_fails past k x.0 e.0 (lists.head_first place_cmp_total x e l r h) fails in
    rw here (first_behind past k l r e (lists.sorted_right place_cmp_total (x ∷ []) (l ++ e ∷ r) h) fails)

pub first_of_left : {X : Type 0} (test : Place → Bool) (t l r : List (Place × X)) (e : Place × X) (best : Option (Place × X)) → t ≡ l ++ e ∷ r → test e.0 ≡ true
    → or_else (first_where test t) best ≡ or_else (first_where test l) (Some e)
first_of_left test t l r e best is h = ap (λ x. or_else (first_where test x) best) is ∙ first_left test l r e best h

pub first_of_right : {X : Type 0} (past : Bool) (k : Place) (t l r : List (Place × X)) (e : Place × X) → t ≡ l ++ e ∷ r → T (is_sorted place_cmp t) → is_from past k e.0 ≡ false
    → first_where (is_from past k) t ≡ first_where (is_from past k) r
first_of_right past k t l r e is sorted fails =
    ap (first_where (is_from past k)) is ∙ first_behind past k l r e (subst (λ x. T (is_sorted place_cmp x)) is sorted) fails
