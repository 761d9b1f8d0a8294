-- A list that is sorted and stable is the one that insertion makes: two lists in order are equal where those of their
-- elements that tie stand in one order.
use Rattle.std.specs.Prelude.{◌≡◌, ◌<◌, ◌≤◌, ℕ, zero, suc, Bool, true, false, cond, not, ◌&&◌, List, [], ◌∷◌, map, filter, length, get_or, if◌then◌else◌}
use mathlib.Core.Path.{refl, sym, ap, subst, ◌∙◌}
use mathlib.Core.Bool.{true≢false}
use Rattle.std.proofs.Common.{arith}
use Rattle.std.proofs.lemmas.List.Sorted.{sorted_far}
use Rattle.std.specs.Cmp.{IsStrictWeakOrder}
use Rattle.std.specs.List.{AllByRecursion}
use Rattle.std.specs.List.Sorted.{IsSortedBy, IsStableBy, ties}

by_bool : {P : Type 0} (b : Bool) → (b ≡ true → P) → (b ≡ false → P) → P
by_bool true f g = f refl
by_bool false f g = g refl

neither_is : (a b : Bool) → (not a && not b) ≡ true → (a ≡ false) × (b ≡ false)
neither_is true b e = absurd (true≢false (sym e))
neither_is false true e = absurd (true≢false (sym e))
neither_is false false e = (refl, refl)

module _ {X : Type 0} where
  abbrev first_or : X → List X → X
  first_or d [] = d
  first_or d (x ∷ xs) = x

  abbrev behind_first : List X → List X
  behind_first [] = []
  behind_first (x ∷ xs) = xs

  abbrev is_some : List X → Bool
  is_some [] = false
  is_some (x ∷ xs) = true

  never_none : (x : X) (xs : List X) → x ∷ xs ≡ [] → ⊥
  never_none x xs e = true≢false (ap is_some e)

  all_at : (P : X → Type 0) (xs : List X) → ((k : ℕ) (d : X) → k < length xs → P (get_or xs k d)) → AllByRecursion P xs
  all_at P [] h = tt
  all_at P (x ∷ xs) h = (h zero x (omega arith), all_at P xs (λ k d l. h (suc k) d (omega (arith, l))))

  all_so : (P Q : X → Type 0) → ((x : X) → P x → Q x) → (xs : List X) → AllByRecursion P xs → AllByRecursion Q xs
  all_so P Q h [] a = tt
  all_so P Q h (x ∷ xs) a = (h x a.0, all_so P Q h xs a.1)

  none_pass : (test : X → Bool) (xs : List X) → AllByRecursion (λ x. test x ≡ false) xs → filter test xs ≡ []
  none_pass test [] a = refl
  none_pass test (x ∷ xs) a = ap (λ b. cond b (x ∷ filter test xs) (filter test xs)) a.0 ∙ none_pass test xs a.1

  same_rest : (b : Bool) (x : X) (xs ys : List X) → cond b (x ∷ xs) xs ≡ cond b (x ∷ ys) ys → xs ≡ ys
  same_rest true x xs ys e = ap behind_first e
  same_rest false x xs ys e = e

  exchanged : (a b : Bool) → (a ≡ true → b ≡ true → ⊥) → (x y : X) (xs : List X)
      → cond a (y ∷ cond b (x ∷ xs) xs) (cond b (x ∷ xs) xs) ≡ cond b (x ∷ cond a (y ∷ xs) xs) (cond a (y ∷ xs) xs)
  exchanged true true h x y xs = absurd (h refl refl)
  exchanged true false h x y xs = refl
  exchanged false true h x y xs = refl
  exchanged false false h x y xs = refl

module _ {X : Type 0} (lt : X → X → Bool) where
  -- an element before the first of some that is not below it
  abbrev pub put : X → List X → List X
  put x [] = x ∷ []
  put x (y ∷ ys) = if lt y x then y ∷ put x ys else x ∷ y ∷ ys

  abbrev pub inserted : List X → List X
  inserted [] = []
  inserted (x ∷ xs) = put x (inserted xs)

  -- none is below an earlier one
  abbrev Rises : List X → Type 0
  Rises [] = Unit {0}
  Rises (x ∷ xs) = AllByRecursion (λ y. lt y x ≡ false) xs × Rises xs

  abbrev tied : X → List X → List X
  tied q xs = filter (ties lt q) xs

  put_all : (P : X → Type 0) (x : X) (ys : List X) → P x → AllByRecursion P ys → AllByRecursion P (put x ys)
  put_all P x [] p a = (p, tt)
  put_all P x (y ∷ ys) p a = either_way (lt y x) (put_all P x ys p a.1)
    where
      either_way : (b : Bool) → AllByRecursion P (put x ys) → AllByRecursion P (cond b (y ∷ put x ys) (x ∷ y ∷ ys))
      either_way true h = (a.0, h)
      either_way false h = (p, a)

  rises_by : (xs : List X) → ((i j : ℕ) (d : X) → i ≤ j → j < length xs → lt (get_or xs j d) (get_or xs i d) ≡ false) → Rises xs
  rises_by [] h = tt
  rises_by (x ∷ xs) h = (
    all_at (λ y. lt y x ≡ false) xs (λ k d l. h zero (suc k) d (omega arith) (omega (arith, l))),
    rises_by xs (λ i j d p q. h (suc i) (suc j) d (omega (arith, p)) (omega (arith, q))),
  )

  module _ (o : IsStrictWeakOrder lt) where
    itself : (x : X) → lt x x ≡ false
    itself x = by_bool (lt x x) (λ e. o.one_way x x e) (λ e. e)

    own_tie : (x : X) → ties lt x x ≡ true
    own_tie x = ap (λ b. not b && not b) (itself x)

    -- ---- insertion sorts, and keeps the order of what ties

    put_rises : (x : X) (ys : List X) → Rises ys → Rises (put x ys)
    put_rises x [] r = (tt, tt)
    put_rises x (y ∷ ys) r = by_bool (lt y x)
        (λ e. subst (λ b. Rises (cond b (y ∷ put x ys) (x ∷ y ∷ ys))) (sym e) (put_all (λ z. lt z y ≡ false) x ys (o.one_way y x e) r.0, put_rises x ys r.1))
        (λ e. subst (λ b. Rises (cond b (y ∷ put x ys) (x ∷ y ∷ ys))) (sym e) ((e, all_so (λ z. lt z y ≡ false) (λ z. lt z x ≡ false) (λ z h. o.chain z y x h e) ys r.0), r))

    not_both : (q x y : X) → lt y x ≡ true → ties lt q y ≡ true → ties lt q x ≡ true → ⊥
    not_both q x y e f g = true≢false (sym e ∙ o.chain y q x (neither_is (lt q y) (lt y q) f).1 (neither_is (lt q x) (lt x q) g).0)

    put_stable : (q x : X) (ys : List X) → tied q (put x ys) ≡ tied q (x ∷ ys)
    put_stable q x [] = refl
    put_stable q x (y ∷ ys) = by_bool (lt y x)
        (λ e. ap (λ b. tied q (cond b (y ∷ put x ys) (x ∷ y ∷ ys))) e
        ∙ (ap (λ zs. cond (ties lt q y) (y ∷ zs) zs) (put_stable q x ys)
        ∙ exchanged (ties lt q y) (ties lt q x) (not_both q x y e) x y (tied q ys)))
        (λ e. ap (λ b. tied q (cond b (y ∷ put x ys) (x ∷ y ∷ ys))) e)

    inserted_rises : (xs : List X) → Rises (inserted xs)
    inserted_rises [] = tt
    inserted_rises (x ∷ xs) = put_rises x (inserted xs) (inserted_rises xs)

    inserted_stable : (q : X) (xs : List X) → tied q (inserted xs) ≡ tied q xs
    inserted_stable q [] = refl
    inserted_stable q (x ∷ xs) = put_stable q x (inserted xs) ∙ ap (λ zs. cond (ties lt q x) (x ∷ zs) zs) (inserted_stable q xs)

    -- ---- two lists in order

    begins : (x : X) (xs : List X) → tied x (x ∷ xs) ≡ x ∷ tied x xs
    begins x xs = ap (λ b. cond b (x ∷ tied x xs) (tied x xs)) (own_tie x)

    -- what is above the first of a list in order, or below it, ties with none
    none_ties : (y z : X) (zs : List X) → lt y z ≡ true → Rises (z ∷ zs) → tied y (z ∷ zs) ≡ []
    none_ties y z zs e r =
        none_pass (ties lt y) (z ∷ zs) (all_so (λ w. lt w z ≡ false) (λ w. ties lt y w ≡ false)
        (λ w h. ap (λ b. not b && not (lt w y)) (by_bool (lt y w) (λ f. f) (λ f. absurd (true≢false (sym e ∙ o.chain y w z f h))))) (z ∷ zs) (itself z, r.0))

    heads : (y z : X) (ys zs : List X) → Rises (y ∷ ys) → Rises (z ∷ zs) → ((q : X) → tied q (y ∷ ys) ≡ tied q (z ∷ zs)) → y ≡ z
    heads y z ys zs r s f = by_bool (lt y z)
        (λ e. absurd (never_none y (tied y ys) (sym (begins y ys) ∙ (f y ∙ none_ties y z zs e s))))
        (λ e. by_bool (lt z y)
        (λ g. absurd (never_none z (tied z zs) (sym (begins z zs) ∙ (sym (f z) ∙ none_ties z y ys g r))))
        (λ g. ap (first_or y) (sym (begins y ys) ∙ (f y ∙ (ap (λ b. cond (not b && not (lt z y)) (z ∷ tied y zs) (tied y zs)) e
        ∙ ap (λ b. cond (not b) (z ∷ tied y zs) (tied y zs)) g)))))

    alike : (ys zs : List X) → Rises ys → Rises zs → ((q : X) → tied q ys ≡ tied q zs) → ys ≡ zs
    alike [] [] r s f = refl
    alike [] (z ∷ zs) r s f = absurd (never_none z (tied z zs) (sym (begins z zs) ∙ sym (f z)))
    alike (y ∷ ys) [] r s f = absurd (never_none y (tied y ys) (sym (begins y ys) ∙ f y))
    alike (y ∷ ys) (z ∷ zs) r s f =
        let e : y ≡ z = heads y z ys zs r s f in
        ap (λ x. x ∷ ys) e ∙ ap (λ xs. z ∷ xs) (alike ys zs r.1 s.1 (λ q. same_rest (ties lt q z) z (tied q ys) (tied q zs) (ap (λ x. tied q (x ∷ ys)) (sym e) ∙ f q)))

    -- what a stable sort leaves
    pub sorted_is : (xs ys : List X) → IsSortedBy lt ys → IsStableBy lt xs ys → ys ≡ inserted xs
    sorted_is xs ys s t = alike ys (inserted xs) (rises_by ys (sorted_far lt o ys s)) (inserted_rises xs) (λ q. t q ∙ sym (inserted_stable q xs))

-- what is shown of some things, sorted by what is shown
module _ {X Y : Type 0} (lt : X → X → Bool) (f : Y → X) where
  put_shown : (y : Y) (ys : List Y) → put lt (f y) (map f ys) ≡ map f (put (λ a b. lt (f a) (f b)) y ys)
  put_shown y [] = refl
  put_shown y (z ∷ zs) = ap (λ xs. cond (lt (f z) (f y)) (f z ∷ xs) (f y ∷ f z ∷ map f zs)) (put_shown y zs) ∙ either_way (lt (f z) (f y))
    where
      either_way : (b : Bool) → cond b (f z ∷ map f (put (λ a b. lt (f a) (f b)) y zs)) (f y ∷ f z ∷ map f zs) ≡ map f (cond b (z ∷ put (λ a b. lt (f a) (f b)) y zs) (y ∷ z ∷ zs))
      either_way true = refl
      either_way false = refl

  pub inserted_shown : (ys : List Y) → inserted lt (map f ys) ≡ map f (inserted (λ a b. lt (f a) (f b)) ys)
  inserted_shown [] = refl
  inserted_shown (y ∷ ys) = ap (put lt (f y)) (inserted_shown ys) ∙ put_shown y (inserted (λ a b. lt (f a) (f b)) ys)
