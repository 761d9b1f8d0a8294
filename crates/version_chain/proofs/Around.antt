-- What holds of versions in the order of their moments holds of those around one of them.
use Rattle.std.specs.Prelude.{◌≡◌, ◌≢◌, ◌<◌, ℕ, suc, nat_lt, Bool, true, false, cond, [], ◌∷◌, ◌++◌, List, length, Option, Some}
use mathlib.Core.Path.{refl, sym, subst, ap, ◌∙◌}
use Rattle.std.proofs.Common.{arith, length-append}
use Rattle.std.specs.List.{AllByRecursion}
use Rattle.std.specs.declared.cmp.Ordering.{Ordering}
use Rattle.std.specs.declared.cmp.Ordering.TheVariants.{Less, Equal, Greater}
use Rattle.std.specs.Ordering.{ordering_reverse, is_lt}
use Rattle.std.specs.Cmp.{IsTotalOrder, on_total, then_total, nat_cmp_total}
use Rattle.table_laws.proofs.Place.{place_cmp_total}
use Rattle.version_chain.specs.Versions.{Moment, moment_cmp, Version, number, above, with_version, AreInOrder, first_where, is_from}
use Rattle.spare_map.proofs.Lists.{or_else}

pub moment_cmp_total : IsTotalOrder moment_cmp
moment_cmp_total = then_total (on_total (λ (m : Moment). m.0) place_cmp_total) (on_total (λ (m : Moment). m.1) nat_cmp_total)

reversed : (x y : Moment) (o : Ordering) → moment_cmp x y ≡ o → moment_cmp y x ≡ ordering_reverse o
reversed x y o is = moment_cmp_total.antisymm y x ∙ ap ordering_reverse is

-- what is before another is before all that is not before that
pub less_up_to : {K : Type 0} {R : K → K → Ordering} (o : IsTotalOrder R) (p q r : K) → R p q ≡ Less → R q r ≢ Greater → R p r ≡ Less
less_up_to {R = R} o p q r lt n = by (R q r) refl
  where
    by : (w : Ordering) → R q r ≡ w → R p r ≡ Less
    by Less is = o.trans p q r lt is
    by Equal is = o.antisymm p r ∙ ap ordering_reverse (sym (o.congr q r p is) ∙ (o.antisymm q p ∙ ap ordering_reverse lt))
    by Greater is = absurd (n is)

not_behind : (x y : Moment) → moment_cmp x y ≡ Less → moment_cmp x y ≢ Greater
not_behind x y is g = let bad : Less ≡ Greater = sym is ∙ g in absurd (cc bad)

-- what is not before a moment is not before those that it is not before
not_before : (m x e : Moment) → moment_cmp x e ≢ Greater → moment_cmp m e ≢ Less → moment_cmp m x ≢ Less
not_before m x e behind from lt = by (moment_cmp x e) refl
  where
    by : (w : Ordering) → moment_cmp x e ≡ w → ⊥
    by Less is = from (moment_cmp_total.trans m x e lt is)
    by Equal is = from (reversed e m Greater (sym (moment_cmp_total.congr x e m is) ∙ reversed m x Less lt))
    by Greater is = behind is

-- what is behind a moment is behind those that it is not before
behind_too : (m x e : Moment) → moment_cmp x e ≢ Greater → moment_cmp m e ≡ Greater → moment_cmp m x ≡ Greater
behind_too m x e behind g = by (moment_cmp x e) refl
  where
    by : (w : Ordering) → moment_cmp x e ≡ w → moment_cmp m x ≡ Greater
    by Less is = reversed x m Less (moment_cmp_total.trans x e m is (reversed m e Greater g))
    by Equal is = reversed x m Less (moment_cmp_total.congr x e m is ∙ reversed m e Greater g)
    by Greater is = absurd (behind is)

not_less : (o : Ordering) → o ≢ Less → is_lt o ≡ false
not_less Less n = absurd (n refl)
not_less Equal n = refl
not_less Greater n = refl

module _ {V : Type 0} where
  all_left : (P : Version V → Type 0) (l r : List (Version V)) → AllByRecursion P (l ++ r) → AllByRecursion P l
  all_left P [] r h = tt
  all_left P (x ∷ l) r h = (h.0, all_left P l r h.1)

  pub all_right : (P : Version V → Type 0) (l r : List (Version V)) → AllByRecursion P (l ++ r) → AllByRecursion P r
  all_right P [] r h = h
  all_right P (x ∷ l) r h = all_right P l r h.1

  in_order_left : (l r : List (Version V)) → AreInOrder (l ++ r) → AreInOrder l
  in_order_left [] r h = tt
  in_order_left (x ∷ l) r h = (all_left _ l r h.0, in_order_left l r h.1)

  pub in_order_right : (l r : List (Version V)) → AreInOrder (l ++ r) → AreInOrder r
  in_order_right [] r h = h
  in_order_right (x ∷ l) r h = in_order_right l r h.1

  with_left : (v e : Version V) (l r : List (Version V)) → moment_cmp v.0 e.0 ≡ Less → with_version v (l ++ e ∷ r) ≡ with_version v l ++ e ∷ r
  with_left v e [] r lt = rw lt refl
  with_left v e (x ∷ l) r lt = elim (is_lt (moment_cmp v.0 x.0)) as (λ b. cond b (v ∷ x ∷ l ++ e ∷ r) (x ∷ with_version v (l ++ e ∷ r)) ≡ cond b (v ∷ x ∷ l) (x ∷ with_version v l) ++ e ∷ r) [
    | true ↦ refl
    | false ↦ ap (λ (t : List (Version V)). x ∷ t) (with_left v e l r lt)
  ]

  with_right : (v e : Version V) (l r : List (Version V)) → AreInOrder (l ++ e ∷ r) → moment_cmp v.0 e.0 ≢ Less → with_version v (l ++ e ∷ r) ≡ l ++ e ∷ with_version v r
  with_right v e [] r h n = rw (not_less _ n) refl
  with_right v e (x ∷ l) r h n =
      let here : is_lt (moment_cmp v.0 x.0) ≡ false = not_less _ (not_before v.0 x.0 e.0 (all_right _ l (e ∷ r) h.0).0 n) in
      rw here (ap (λ (t : List (Version V)). x ∷ t) (with_right v e l r h.1 n))

  -- ---- one more, and fewer

  below_all : (m l : Moment) (vs : List (Version V)) → moment_cmp m l ≡ Less → AllByRecursion (λ w. moment_cmp l w.0 ≢ Greater) vs → AllByRecursion (λ w. moment_cmp m w.0 ≢ Greater) vs
  below_all m l [] lt h = tt
  below_all m l (v ∷ vs) lt h = (not_behind m v.0 (less_up_to moment_cmp_total m l v.0 lt h.0), below_all m l vs lt h.1)

  pub all_with : (P : Version V → Type 0) (v : Version V) (vs : List (Version V)) → P v → AllByRecursion P vs → AllByRecursion P (with_version v vs)
  all_with P v [] p h = (p, tt)
  all_with P v (w ∷ vs) p h = elim (is_lt (moment_cmp v.0 w.0)) as (λ b. AllByRecursion P (cond b (v ∷ w ∷ vs) (w ∷ with_version v vs))) [
    | true ↦ (p, h)
    | false ↦ (h.0, all_with P v vs p h.1)
  ]

  pub in_order_with : (v : Version V) (vs : List (Version V)) → AreInOrder vs → AreInOrder (with_version v vs)
  in_order_with v [] h = (tt, tt)
  in_order_with v (w ∷ vs) h = by (moment_cmp v.0 w.0) refl (in_order_with v vs h.1)
    where
      behind : (o : Ordering) → moment_cmp v.0 w.0 ≡ o → o ≢ Less → moment_cmp w.0 v.0 ≢ Greater
      behind Less is n g = absurd (n refl)
      behind Equal is n g = let bad : Equal ≡ Greater = sym (reversed v.0 w.0 Equal is) ∙ g in absurd (cc bad)
      behind Greater is n g = let bad : Less ≡ Greater = sym (reversed v.0 w.0 Greater is) ∙ g in absurd (cc bad)

      by : (o : Ordering) → moment_cmp v.0 w.0 ≡ o → AreInOrder (with_version v vs) → AreInOrder (with_version v (w ∷ vs))
      by Less is rest = rw is ((not_behind v.0 w.0 is, below_all v.0 w.0 vs is h.0), h)
      by Equal is rest = rw is (all_with _ v vs (behind Equal is (λ z. absurd (cc z))) h.0, rest)
      by Greater is rest = rw is (all_with _ v vs (behind Greater is (λ z. absurd (cc z))) h.0, rest)

  pub one_more : (v : Version V) (vs : List (Version V)) → length (with_version v vs) ≡ suc (length vs)
  one_more v [] = refl
  one_more v (w ∷ vs) = elim (is_lt (moment_cmp v.0 w.0)) as (λ b. length (cond b (v ∷ w ∷ vs) (w ∷ with_version v vs)) ≡ suc (suc (length vs))) [
    | true ↦ refl
    | false ↦ ap (λ (n : ℕ). suc n) (one_more v vs)
  ]

  pub all_kept : (P : Version V → Type 0) (n : ℕ) (vs : List (Version V)) → AllByRecursion P vs → AllByRecursion P (above n vs)
  all_kept P n [] h = tt
  all_kept P n (v ∷ vs) h = elim (nat_lt n (number v)) as (λ b. AllByRecursion P (cond b (v ∷ above n vs) (above n vs))) [
    | true ↦ (h.0, all_kept P n vs h.1)
    | false ↦ all_kept P n vs h.1
  ]

  pub in_order_above : (n : ℕ) (vs : List (Version V)) → AreInOrder vs → AreInOrder (above n vs)
  in_order_above n [] h = tt
  in_order_above n (v ∷ vs) h = elim (nat_lt n (number v)) as (λ b. AreInOrder (cond b (v ∷ above n vs) (above n vs))) [
    | true ↦ (all_kept _ n vs h.0, in_order_above n vs h.1)
    | false ↦ in_order_above n vs h.1
  ]

  -- ---- the first one

  first_left : (test : Version V → Bool) (l r : List (Version V)) (e : Version V) (best : Option (Version V)) → test e ≡ true
      → or_else (first_where test (l ++ e ∷ r)) best ≡ or_else (first_where test l) (Some e)
  first_left test [] r e best h = rw h refl
  first_left test (x ∷ l) r e best h = elim (test x) as (λ b. or_else (cond b (Some x) (first_where test (l ++ e ∷ r))) best ≡ or_else (cond b (Some x) (first_where test l)) (Some e)) [
    | true ↦ refl
    | false ↦ first_left test l r e best h
  ]

  pub before_fails : (past : Bool) (m : Moment) (x e : Version V) → moment_cmp x.0 e.0 ≢ Greater → is_from past m e ≡ false → is_from past m x ≡ false
  before_fails past m x e behind fails = by past (moment_cmp m e.0) refl fails
    where
      by : (past : Bool) (w : Ordering) → moment_cmp m e.0 ≡ w → is_from past m e ≡ false → is_from past m x ≡ false
      by true Less is f = absurd (cc)
      by true Equal is f = not_less _ (not_before m x.0 e.0 behind (λ z. absurd (cc)))
      by true Greater is f = rw (behind_too m x.0 e.0 behind is) refl
      by false Less is f = absurd (cc)
      by false Equal is f = absurd (cc)
      by false Greater is f = rw (behind_too m x.0 e.0 behind is) refl

  first_behind : (past : Bool) (m : Moment) (l r : List (Version V)) (e : Version V) → AreInOrder (l ++ e ∷ r) → is_from past m e ≡ false
      → first_where (is_from past m) (l ++ e ∷ r) ≡ first_where (is_from past m) r
  first_behind past m [] r e h fails = rw fails refl
  first_behind past m (x ∷ l) r e h fails =
      let here : is_from past m x ≡ false = before_fails past m x e (all_right _ l (e ∷ r) h.0).0 fails in
      rw here (first_behind past m l r e h.1 fails)

  -- ---- around one of a list

  module _ (t l r : List (Version V)) (e : Version V) (is : t ≡ l ++ e ∷ r) where
    pub fewer_left : length l < length t
    fewer_left = let n = ap length is ∙ length-append l (e ∷ r) in omega (arith, n)

    pub fewer_right : length r < length t
    fewer_right = let n = ap length is ∙ length-append l (e ∷ r) in omega (arith, n)

    pub put_left : (v : Version V) → moment_cmp v.0 e.0 ≡ Less → with_version v t ≡ with_version v l ++ e ∷ r
    put_left v lt = ap (with_version v) is ∙ with_left v e l r lt

    pub first_of_left : (test : Version V → Bool) (best : Option (Version V)) → test e ≡ true → or_else (first_where test t) best ≡ or_else (first_where test l) (Some e)
    first_of_left test best h = ap (λ x. or_else (first_where test x) best) is ∙ first_left test l r e best h

    module _ (sorted : AreInOrder t) where
      parts : AreInOrder (l ++ e ∷ r)
      parts = subst AreInOrder is sorted

      pub sorted_left : AreInOrder l
      sorted_left = in_order_left l (e ∷ r) parts

      pub sorted_right : AreInOrder r
      sorted_right = (in_order_right l (e ∷ r) parts).1

      pub put_right : (v : Version V) → moment_cmp v.0 e.0 ≢ Less → with_version v t ≡ l ++ e ∷ with_version v r
      put_right v n = ap (with_version v) is ∙ with_right v e l r parts n

      pub first_of_right : (past : Bool) (m : Moment) → is_from past m e ≡ false → first_where (is_from past m) t ≡ first_where (is_from past m) r
      first_of_right past m fails = ap (first_where (is_from past m)) is ∙ first_behind past m l r e parts fails
