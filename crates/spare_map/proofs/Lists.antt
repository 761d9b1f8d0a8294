-- Lists in the order of their keys, around one entry of theirs.
use Rattle.std.specs.Prelude.{◌≡◌, Bool, true, false, cond, not, ◌&&◌, T, List, [], ◌∷◌, ◌++◌, Option, Some, None}
use mathlib.Core.Path.{refl, sym, ap, subst, ◌∙◌}
use Rattle.std.specs.declared.cmp.Ordering.{Ordering}
use Rattle.std.specs.declared.cmp.Ordering.TheVariants.{Less, Equal, Greater}
use Rattle.std.specs.Ordering.{is_lt, eq_by_cmp, ordering_reverse}
use Rattle.std.specs.Cmp.{IsTotalOrder}
use Rattle.std.specs.FinMap.{find, put, is_sorted}
use Rattle.std.specs.FinMap.Entries.{where_key, below_all}

both : (a b : Bool) → T a → T b → T (a && b)
both true b p q = q
both false b p q = p

pub first : (a b : Bool) → T (a && b) → T a
first true b p = tt
first false b p = p

pub second : (a b : Bool) → T (a && b) → T b
second true b p = p
second false b p = absurd p

pub less : (o : Ordering) → T (is_lt o) → o ≡ Less
less Less p = refl
less Equal p = absurd p
less Greater p = absurd p

-- the first, if there is one, and else the other
abbrev pub or_else : {X : Type 0} → Option X → Option X → Option X
or_else None y = y
or_else (Some x) y = Some x

or_else_nested : {X : Type 0} (a b c : Option X) → or_else (or_else a b) c ≡ or_else a (or_else b c)
or_else_nested None b c = refl
or_else_nested (Some x) b c = refl

module _ {K X : Type 0} {R : K → K → Ordering} (o : IsTotalOrder R) where
  -- ---- what the order tells

  below_left : (x : K) (l r : List (K × X)) → T (below_all R x (l ++ r)) → T (below_all R x l)
  below_left x [] r h = tt
  below_left x (e ∷ l) r h = both _ _ (first (is_lt (R x e.0)) (below_all R x (l ++ r)) h) (below_left x l r (second (is_lt (R x e.0)) (below_all R x (l ++ r)) h))

  below_right : (x : K) (l r : List (K × X)) → T (below_all R x (l ++ r)) → T (below_all R x r)
  below_right x [] r h = h
  below_right x (e ∷ l) r h = below_right x l r (second (is_lt (R x e.0)) (below_all R x (l ++ r)) h)

  pub sorted_left : (l r : List (K × X)) → T (is_sorted R (l ++ r)) → T (is_sorted R l)
  sorted_left [] r h = tt
  sorted_left (e ∷ l) r h = both _ _ (below_left e.0 l r (first (below_all R e.0 (l ++ r)) (is_sorted R (l ++ r)) h)) (sorted_left l r (second (below_all R e.0 (l ++ r)) (is_sorted R (l ++ r)) h))

  pub sorted_right : (l r : List (K × X)) → T (is_sorted R (l ++ r)) → T (is_sorted R r)
  sorted_right [] r h = h
  sorted_right (e ∷ l) r h = sorted_right l r (second (below_all R e.0 (l ++ r)) (is_sorted R (l ++ r)) h)

  pub sorted_behind : (l r : List (K × X)) (e : K × X) → T (is_sorted R (l ++ e ∷ r)) → T (is_sorted R r)
  sorted_behind l r e h = second (below_all R e.0 r) (is_sorted R r) (sorted_right l (e ∷ r) h)

  -- the first of a list stands before what is behind it
  pub head_first : (x e : K × X) (l r : List (K × X)) → T (is_sorted R (x ∷ l ++ e ∷ r)) → R x.0 e.0 ≡ Less
  head_first x e l r h =
      less (R x.0 e.0) (first (is_lt (R x.0 e.0)) (below_all R x.0 r) (below_right x.0 l (e ∷ r) (first (below_all R x.0 (l ++ e ∷ r)) (is_sorted R (l ++ e ∷ r)) h)))

  above_head : (k : K) (x e : K × X) (l r : List (K × X)) → T (is_sorted R (x ∷ l ++ e ∷ r)) → R k e.0 ≡ Greater → R k x.0 ≡ Greater
  above_head k x e l r h g =
      let back : R e.0 k ≡ Less = o.antisymm e.0 k ∙ ap ordering_reverse g in
      o.antisymm k x.0 ∙ ap ordering_reverse (o.trans x.0 e.0 k (head_first x e l r h) back)

  above_tied : (k : K) (x e : K × X) (l r : List (K × X)) → T (is_sorted R (x ∷ l ++ e ∷ r)) → R k e.0 ≡ Equal → R k x.0 ≡ Greater
  above_tied k x e l r h t =
      let from : R e.0 x.0 ≡ Greater = o.antisymm e.0 x.0 ∙ ap ordering_reverse (head_first x e l r h) in
      sym (o.congr e.0 k x.0 (o.antisymm e.0 k ∙ ap ordering_reverse t)) ∙ from

  -- ---- an entry put in

  pub put_left : (k : K) (v : X) (l r : List (K × X)) (e : K × X) → R k e.0 ≡ Less → put R k v (l ++ e ∷ r) ≡ put R k v l ++ e ∷ r
  put_left k v [] r e lt = rw lt refl
  put_left k v (x ∷ l) r e lt = by (R k x.0) refl (put_left k v l r e lt)
    where
      by : (w : Ordering) → R k x.0 ≡ w → put R k v (l ++ e ∷ r) ≡ put R k v l ++ e ∷ r → put R k v (x ∷ l ++ e ∷ r) ≡ put R k v (x ∷ l) ++ e ∷ r
      by Less is rest = rw is refl
      by Equal is rest = rw is refl
      by Greater is rest = rw is (ap (λ (t : List (K × X)). x ∷ t) rest)

  pub put_right : (k : K) (v : X) (l r : List (K × X)) (e : K × X) → T (is_sorted R (l ++ e ∷ r)) → R k e.0 ≡ Greater → put R k v (l ++ e ∷ r) ≡ l ++ e ∷ put R k v r
  put_right k v [] r e h g = rw g refl
  put_right k v (x ∷ l) r e h g =
      let above : R k x.0 ≡ Greater = above_head k x e l r h g in
      rw above (ap (λ (t : List (K × X)). x ∷ t) (put_right k v l r e (second (below_all R x.0 (l ++ e ∷ r)) (is_sorted R (l ++ e ∷ r)) h) g))

  pub put_here : (k : K) (v : X) (l r : List (K × X)) (e : K × X) → T (is_sorted R (l ++ e ∷ r)) → R k e.0 ≡ Equal → put R k v (l ++ e ∷ r) ≡ l ++ (e.0, v) ∷ r
  put_here k v [] r e h t = rw t refl
  put_here k v (x ∷ l) r e h t =
      let above : R k x.0 ≡ Greater = above_tied k x e l r h t in
      rw above (ap (λ (y : List (K × X)). x ∷ y) (put_here k v l r e (second (below_all R x.0 (l ++ e ∷ r)) (is_sorted R (l ++ e ∷ r)) h) t))

  -- ---- an entry looked for

  -- a key that ties with none of some later keys
  none_below : (k : K) (l : List (K × X)) → T (below_all R k l) → find R k l ≡ None
  none_below k [] h = refl
  none_below k (x ∷ l) h =
      let lt : R k x.0 ≡ Less = less (R k x.0) (first (is_lt (R k x.0)) (below_all R k l) h) in
      rw lt (none_below k l (second (is_lt (R k x.0)) (below_all R k l) h))

  below_less : (k x : K) (l : List (K × X)) → R k x ≡ Less → T (below_all R x l) → T (below_all R k l)
  below_less k x [] lt h = tt
  below_less k x (e ∷ l) lt h =
      let here : R k e.0 ≡ Less = o.trans k x e.0 lt (less (R x e.0) (first (is_lt (R x e.0)) (below_all R x l) h)) in
      both (is_lt (R k e.0)) (below_all R k l) (subst (λ w. T (is_lt w)) (sym here) tt) (below_less k x l lt (second (is_lt (R x e.0)) (below_all R x l) h))

  -- a key before an entry is before all that is behind it
  none_behind : (k : K) (l r : List (K × X)) (e : K × X) → T (is_sorted R (l ++ e ∷ r)) → R k e.0 ≡ Less → find R k (e ∷ r) ≡ None
  none_behind k l r e h lt =
      rw lt (none_below k r (below_less k e.0 r lt (first (below_all R e.0 r) (is_sorted R r) (sorted_right l (e ∷ r) h))))

  pub find_left : (k : K) (l r : List (K × X)) (e : K × X) → T (is_sorted R (l ++ e ∷ r)) → R k e.0 ≡ Less → find R k (l ++ e ∷ r) ≡ find R k l
  find_left k [] r e h lt = none_behind k [] r e h lt
  find_left k (x ∷ l) r e h lt = ap (cond (eq_by_cmp R k x.0) (Some x.1)) (find_left k l r e (second (below_all R x.0 (l ++ e ∷ r)) (is_sorted R (l ++ e ∷ r)) h) lt)

  pub find_right : (k : K) (l r : List (K × X)) (e : K × X) → T (is_sorted R (l ++ e ∷ r)) → R k e.0 ≡ Greater → find R k (l ++ e ∷ r) ≡ find R k r
  find_right k [] r e h g = rw g refl
  find_right k (x ∷ l) r e h g =
      let above : R k x.0 ≡ Greater = above_head k x e l r h g in
      rw above (find_right k l r e (second (below_all R x.0 (l ++ e ∷ r)) (is_sorted R (l ++ e ∷ r)) h) g)

  pub find_here : (k : K) (l r : List (K × X)) (e : K × X) → T (is_sorted R (l ++ e ∷ r)) → R k e.0 ≡ Equal → find R k (l ++ e ∷ r) ≡ Some e.1
  find_here k [] r e h t = rw t refl
  find_here k (x ∷ l) r e h t =
      let above : R k x.0 ≡ Greater = above_tied k x e l r h t in
      rw above (find_here k l r e (second (below_all R x.0 (l ++ e ∷ r)) (is_sorted R (l ++ e ∷ r)) h) t)

  -- ---- an entry taken out

  -- the entries but one
  abbrev pub without : K → List (K × X) → List (K × X)
  without k l = where_key R (λ x. not (eq_by_cmp R k x)) l

  all_left : (k : K) (l : List (K × X)) → T (below_all R k l) → without k l ≡ l
  all_left k [] h = refl
  all_left k (x ∷ l) h =
      let lt : R k x.0 ≡ Less = less (R k x.0) (first (is_lt (R k x.0)) (below_all R k l) h) in
      rw lt (ap (λ (t : List (K × X)). x ∷ t) (all_left k l (second (is_lt (R k x.0)) (below_all R k l) h)))

  pub without_left : (k : K) (l r : List (K × X)) (e : K × X) → T (is_sorted R (l ++ e ∷ r)) → R k e.0 ≡ Less → without k (l ++ e ∷ r) ≡ without k l ++ e ∷ r
  without_left k [] r e h lt = rw lt (ap (λ (t : List (K × X)). e ∷ t) (all_left k r (below_less k e.0 r lt (first (below_all R e.0 r) (is_sorted R r) h))))
  without_left k (x ∷ l) r e h lt = elim (eq_by_cmp R k x.0) as (λ b. cond (not b) (x ∷ without k (l ++ e ∷ r)) (without k (l ++ e ∷ r)) ≡ cond (not b) (x ∷ without k l) (without k l) ++ e ∷ r) [
    | true ↦ without_left k l r e (second (below_all R x.0 (l ++ e ∷ r)) (is_sorted R (l ++ e ∷ r)) h) lt
    | false ↦ ap (λ (t : List (K × X)). x ∷ t) (without_left k l r e (second (below_all R x.0 (l ++ e ∷ r)) (is_sorted R (l ++ e ∷ r)) h) lt)
  ]

  pub without_right : (k : K) (l r : List (K × X)) (e : K × X) → T (is_sorted R (l ++ e ∷ r)) → R k e.0 ≡ Greater → without k (l ++ e ∷ r) ≡ l ++ e ∷ without k r
  without_right k [] r e h g = rw g refl
  without_right k (x ∷ l) r e h g =
      let above : R k x.0 ≡ Greater = above_head k x e l r h g in
      rw above (ap (λ (t : List (K × X)). x ∷ t) (without_right k l r e (second (below_all R x.0 (l ++ e ∷ r)) (is_sorted R (l ++ e ∷ r)) h) g))

  pub without_here : (k : K) (l r : List (K × X)) (e : K × X) → T (is_sorted R (l ++ e ∷ r)) → R k e.0 ≡ Equal → without k (l ++ e ∷ r) ≡ l ++ r
  without_here k [] r e h t = rw t (all_left k r (tied_below r (first (below_all R e.0 r) (is_sorted R r) h)))
    where
      tied_below : (r : List (K × X)) → T (below_all R e.0 r) → T (below_all R k r)
      tied_below [] b = tt
      tied_below (y ∷ r) b = both _ _ (subst (λ w. T (is_lt w)) (o.congr e.0 k y.0 (o.antisymm e.0 k ∙ ap ordering_reverse t)) (first (is_lt (R e.0 y.0)) (below_all R e.0 r) b)) (tied_below r (second (is_lt (R e.0 y.0)) (below_all R e.0 r) b))
  without_here k (x ∷ l) r e h t =
      let above : R k x.0 ≡ Greater = above_tied k x e l r h t in
      rw above (ap (λ (t : List (K × X)). x ∷ t) (without_here k l r e (second (below_all R x.0 (l ++ e ∷ r)) (is_sorted R (l ++ e ∷ r)) h) t))
