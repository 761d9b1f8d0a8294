-- The first of a list that is bad beside those before it.
use Rattle.std.proofs.Common.{◌≡◌, inl, inr, ◌⊎◌, ⊎_elim, ℕ, suc, ◌+◌, ◌<◌, List, [], ◌∷◌, ◌++◌, map, length, get_or, take, drop, refl, sym, ap, subst, ◌∙◌, arith}
use Rattle.std.proofs.Math.Seq.{take-suc, drop-cons}
use Rattle.std.proofs.lemmas.List.{take-append-drop}
use Rattle.std.specs.List.{Contains}
use Rattle.txn_machine.proofs.Basics.{contains_none}
use Rattle.txn_machine.proofs.Holding.{contains_here, contains_next}
use Rattle.txn_log.specs.Damaged.{FirstBad}
use Rattle.txn_log.proofs.Placing.{in_rest}
use Rattle.image_entries.specs.Entries.{NoneBad}
use Rattle.image_entries.specs.Parts.{onto, before}

module _ {X : Type 0} (bad : List X → X → Type 0) where
  pub none_append : (earlier xs ys : List X) → NoneBad bad earlier xs → NoneBad bad (onto xs earlier) ys → NoneBad bad earlier (xs ++ ys)
  none_append earlier [] ys h k = k
  none_append earlier (x ∷ xs) ys h k = (h.0, none_append (x ∷ earlier) xs ys h.1 k)

  pub first_after : (earlier xs : List X) (x : X) (ys : List X) → NoneBad bad earlier xs → bad (onto xs earlier) x → FirstBad bad earlier (xs ++ x ∷ ys) x
  first_after earlier [] x ys h k = inl (refl, k)
  first_after earlier (y ∷ xs) x ys h k = inr (h.0, first_after (y ∷ earlier) xs x ys h.1 k)

  pub none_first : (earlier xs : List X) (x : X) → NoneBad bad earlier xs → FirstBad bad earlier xs x → ⊥
  none_first earlier [] x h k = k
  none_first earlier (y ∷ ys) x h (inl k) = h.0 k.1
  none_first earlier (y ∷ ys) x h (inr k) = none_first (y ∷ earlier) ys x h.1 k.1

-- ---- by the place in the list

onto_append : {X : Type 0} (xs ys earlier : List X) → onto (xs ++ ys) earlier ≡ onto ys (onto xs earlier)
onto_append [] ys earlier = refl
onto_append (x ∷ xs) ys earlier = onto_append xs ys (x ∷ earlier)

pub take_next : {X : Type 0} (xs : List X) (i : ℕ) (d : X) → i < length xs → take (i + 1) xs ≡ take i xs ++ get_or xs i d ∷ []
take_next xs i d inside = ap (λ n. take n xs) (let e : i + 1 ≡ suc i = omega arith in e) ∙ take-suc xs i d inside

-- one further
pub before_next : {X : Type 0} (xs : List X) (i : ℕ) (d : X) → i < length xs → before (i + 1) xs ≡ get_or xs i d ∷ before i xs
before_next {X} xs i d inside = ap (λ (ys : List X). onto ys []) (take_next xs i d inside) ∙ onto_append (take i xs) (get_or xs i d ∷ []) []

module _ {X : Type 0} (bad : List X → X → Type 0) (xs : List X) (i : ℕ) (d : X) (inside : i < length xs) where
  pub none_next : NoneBad bad [] (take i xs) → (bad (before i xs) (get_or xs i d) → ⊥) → NoneBad bad [] (take (i + 1) xs)
  none_next h good = subst (λ (ys : List X). NoneBad bad [] ys) (sym (take_next xs i d inside)) (none_append bad [] (take i xs) (get_or xs i d ∷ []) h (good, tt))

  pub first_here : NoneBad bad [] (take i xs) → bad (before i xs) (get_or xs i d) → FirstBad bad [] xs (get_or xs i d)
  first_here h is =
      let split : xs ≡ take i xs ++ get_or xs i d ∷ drop (suc i) xs = sym (take-append-drop i xs) ∙ ap (λ (ys : List X). take i xs ++ ys) (drop-cons xs i d inside) in
      subst (λ (ys : List X). FirstBad bad [] ys (get_or xs i d)) (sym split) (first_after bad [] (take i xs) (get_or xs i d) (drop (suc i) xs) h is)

-- ---- elements

pub in_onto : {X : Type 0} (xs earlier : List X) (x : X) → Contains (onto xs earlier) x → Contains xs x ⊎ Contains earlier x
in_onto [] earlier x c = inr c
in_onto (y ∷ xs) earlier x c = ⊎_elim
    (λ d. inl (contains_next y xs x d))
    (λ d. in_rest y x earlier d (λ e. inl (subst (Contains (y ∷ xs)) e (contains_here y xs))) (λ f. inr f))
    (in_onto xs (y ∷ earlier) x c)

pub onto_has : {X : Type 0} (xs earlier : List X) (x : X) → Contains xs x ⊎ Contains earlier x → Contains (onto xs earlier) x
onto_has [] earlier x (inl c) = absurd (contains_none x c)
onto_has [] earlier x (inr c) = c
onto_has (y ∷ xs) earlier x (inl c) = in_rest y x xs c
    (λ e. onto_has xs (y ∷ earlier) x (inr (subst (Contains (y ∷ earlier)) e (contains_here y earlier))))
    (λ d. onto_has xs (y ∷ earlier) x (inl d))
onto_has (y ∷ xs) earlier x (inr c) = onto_has xs (y ∷ earlier) x (inr (contains_next y earlier x c))

-- an element of what a list is mapped to is that of one of it
pub of_one : {X Y : Type 0} (f : X → Y) (xs : List X) (y : Y) → Contains (map f xs) y → (x : X) × Contains xs x × (f x ≡ y)
of_one f [] y c = absurd (contains_none y c)
of_one f (x ∷ xs) y c = in_rest (f x) y (map f xs) c
    (λ same. (x, contains_here x xs, same))
    (λ d. let one = of_one f xs y d in (one.0, contains_next x xs one.0 one.1, one.2))
