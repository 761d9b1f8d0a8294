-- Histories that grow by an entry, and the low bit of a word.
use Rattle.std.proofs.Common.{◌≡◌, ◌≢◌, ◌⊎◌, ℕ, ◌+◌, ◌*◌, ◌^◌, ◌≤◌, eqb, ne_eqb, Bool, true, false, if◌then◌else◌, List, [], ◌∷◌, ◌++◌, length, drop, refl, sym, ap, ◌∙◌, ⊎_elim, inl, inr, arith, append_assoc, length-append}
use Rattle.std.proofs.lemmas.List.{append-nil}
use Rattle.std.proofs.lemmas.Nat.{or_block}
use Rattle.std.specs.Int.Bits.{bit_or, or_zero_r}
use Rattle.turn_latch.specs.Histories.{Begins, of, AddsOne}

pub no_items : {A : Type 0} (xs : List A) → length xs ≡ 0 → xs ≡ []
no_items [] e = refl
no_items (x ∷ xs) e = absurd (omega arith)

abbrev first_or : {E : Type 0} → E → List E → E
first_or d [] = d
first_or d (x ∷ xs) = x

module _ {E : Type 0} where
  append_split : (b : Bool) (x : E) (xs ys zs : List E) → zs ≡ xs ++ ys → (if b then x ∷ zs else zs) ≡ (if b then x ∷ xs else xs) ++ ys
  append_split true x xs ys zs e = ap (λ (l : List E). x ∷ l) e
  append_split false x xs ys zs e = e

  left_empty : (xs ys : List E) → xs ++ ys ≡ [] → xs ≡ []
  left_empty [] ys e = refl
  left_empty (x ∷ xs) ys e = absurd (let l : length (x ∷ (xs ++ ys)) ≡ 0 = ap length e in omega arith)

  two_parts : (xs ys ms ns : List E) → xs ++ ms ≡ ys ++ ns → Begins xs ys ⊎ Begins ys xs
  two_parts [] ys ms ns e = inr (ys, refl)
  two_parts (x ∷ xs) [] ms ns e = inl (x ∷ xs, refl)
  two_parts (x ∷ xs) (y ∷ ys) ms ns e = let tail : xs ++ ms ≡ ys ++ ns = ap (λ (l : List E). drop 1 l) e in let head : x ≡ y = ap (λ (l : List E). first_or x l) e in
      ⊎_elim (λ (t : Begins xs ys). inl (t.0, (λ i. head i ∷ t.1 i))) (λ (t : Begins ys xs). inr (t.0, (λ i. sym head i ∷ t.1 i))) (two_parts xs ys ms ns tail)

  pub begins_self : (xs : List E) → Begins xs xs
  begins_self xs = ([], sym (append-nil xs))

  pub begins_trans : (xs ys zs : List E) → Begins ys xs → Begins zs ys → Begins zs xs
  begins_trans xs ys zs a b = (a.0 ++ b.0, b.1 ∙ (ap (λ (l : List E). l ++ b.0) a.1 ∙ append_assoc xs a.0 b.0))

  pub adds_begins : (by : E → ℕ) (n : ℕ) (xs ys : List E) → AddsOne by n xs ys → Begins ys xs
  adds_begins by n xs ys = ⊎_elim (λ (e : ys ≡ xs). ([], e ∙ sym (append-nil xs))) (λ (t : (e : E) × (by e ≡ n) × (ys ≡ xs ++ e ∷ [])). (t.0 ∷ [], t.2))

  of_split : (by : E → ℕ) (k : ℕ) (x : E) (xs ys : List E) → of by k xs ≡ of by k ys → of by k (x ∷ xs) ≡ of by k (x ∷ ys)
  of_split by k x xs ys e = ap (λ (l : List E). if eqb (by x) k then x ∷ l else l) e

  of_other : (by : E → ℕ) (k : ℕ) (e : E) → by e ≢ k → (xs : List E) → of by k (xs ++ e ∷ []) ≡ of by k xs
  of_other by k e other [] = rw (ne_eqb (by e) k other) refl
  of_other by k e other (x ∷ xs) = of_split by k x (xs ++ e ∷ []) xs (of_other by k e other xs)

  -- entries of another number stay those that they were
  pub adds_other : (by : E → ℕ) (n k : ℕ) (xs ys : List E) → k ≢ n → AddsOne by n xs ys → of by k ys ≡ of by k xs
  adds_other by n k xs ys other = ⊎_elim (λ (e : ys ≡ xs). ap (of by k) e)
      (λ (t : (e : E) × (by e ≡ n) × (ys ≡ xs ++ e ∷ [])). ap (of by k) t.2 ∙ of_other by k t.0 (λ is. other (sym is ∙ t.1)) xs)

  pub adds_length : (by : E → ℕ) (n : ℕ) (xs ys : List E) → AddsOne by n xs ys → (length ys ≡ length xs) ⊎ (length ys ≡ length xs + 1)
  adds_length by n xs ys = ⊎_elim (λ (e : ys ≡ xs). inl (ap length e)) (λ (t : (e : E) × (by e ≡ n) × (ys ≡ xs ++ e ∷ [])). inr (ap length t.2 ∙ length-append xs (t.0 ∷ [])))

  pub of_append : (by : E → ℕ) (k : ℕ) (xs ys : List E) → of by k (xs ++ ys) ≡ of by k xs ++ of by k ys
  of_append by k [] ys = refl
  of_append by k (x ∷ xs) ys = append_split (eqb (by x) k) x (of by k xs) (of by k ys) (of by k (xs ++ ys)) (of_append by k xs ys)

  -- a beginning has no entry of a number of which the whole has none
  pub of_begins : (by : E → ℕ) (k : ℕ) (xs ys : List E) → Begins ys xs → of by k ys ≡ [] → of by k xs ≡ []
  of_begins by k xs ys b e = left_empty (of by k xs) (of by k b.0) (sym (of_append by k xs b.0) ∙ (ap (of by k) (sym b.1) ∙ e))

  -- of two beginnings of one list one begins the other
  pub two_begin : (xs ys zs : List E) → Begins zs xs → Begins zs ys → Begins xs ys ⊎ Begins ys xs
  two_begin xs ys zs a b = two_parts xs ys a.0 b.0 (sym a.1 ∙ b.1)

  -- between a beginning that has all entries of a number and the whole, every beginning has them
  pub of_between : (by : E → ℕ) (k : ℕ) (xs ys zs : List E) → Begins ys xs → Begins zs ys → of by k zs ≡ of by k xs → of by k zs ≡ of by k ys
  of_between by k xs ys zs a b e =
      let middle : of by k ys ≡ of by k xs ++ of by k a.0 = ap (of by k) a.1 ∙ of_append by k xs a.0 in
      let whole : of by k zs ≡ of by k ys ++ of by k b.0 = ap (of by k) b.1 ∙ of_append by k ys b.0 in
      let n : length (of by k zs) ≡ length (of by k ys) + length (of by k b.0) = ap length whole ∙ length-append (of by k ys) (of by k b.0) in
      let m : length (of by k ys) ≡ length (of by k xs) + length (of by k a.0) = ap length middle ∙ length-append (of by k xs) (of by k a.0) in
      let same : length (of by k zs) ≡ length (of by k xs) = ap length e in
      let none : of by k b.0 ≡ [] = no_items (of by k b.0) (omega arith) in
      whole ∙ (ap (λ (l : List E). of by k ys ++ l) none ∙ append-nil (of by k ys))

  pub begins_length : (xs ys : List E) → Begins ys xs → length xs ≤ length ys
  begins_length xs ys b = let n : length ys ≡ length xs + length b.0 = ap length b.1 ∙ length-append xs b.0 in omega arith

  -- of two beginnings of one list the longer one begins with the other
  pub longer_begins : (xs ys zs : List E) → Begins zs xs → Begins zs ys → length ys ≤ length xs → Begins xs ys
  longer_begins xs ys zs a b le = ⊎_elim (λ (t : Begins xs ys). t)
      (λ (t : Begins ys xs). let n : length ys ≡ length xs + length t.0 = ap length t.1 ∙ length-append xs t.0 in
      let none : t.0 ≡ [] = no_items t.0 (omega arith) in
      let same : ys ≡ xs = t.1 ∙ (ap (λ (l : List E). xs ++ l) none ∙ append-nil xs) in ([], sym same ∙ sym (append-nil ys)))
      (two_begin xs ys zs a b)

pub or_even : (n : ℕ) → bit_or (2 * n) 1 ≡ 2 * n + 1
or_even n =
    let e : 2 * n ≡ n * 2 ^ 1 + 0 = omega arith in
    let b : bit_or (n * 2 ^ 1 + 0) (0 * 2 ^ 1 + 1) ≡ bit_or n 0 * 2 ^ 1 + bit_or 0 1 = or_block 1 n 0 0 1 (omega arith) (omega arith) in
    let z = or_zero_r n in
    ap (λ (k : ℕ). bit_or k 1) e ∙ (b ∙ (ap (λ (k : ℕ). k * 2 ^ 1 + 1) z ∙ (let f : n * 2 ^ 1 + 1 ≡ 2 * n + 1 = omega arith in f)))

pub or_odd : (n : ℕ) → bit_or (2 * n + 1) 1 ≡ 2 * n + 1
or_odd n =
    let e : 2 * n + 1 ≡ n * 2 ^ 1 + 1 = omega arith in
    let b : bit_or (n * 2 ^ 1 + 1) (0 * 2 ^ 1 + 1) ≡ bit_or n 0 * 2 ^ 1 + bit_or 1 1 = or_block 1 n 0 1 1 (omega arith) (omega arith) in
    let z = or_zero_r n in
    ap (λ (k : ℕ). bit_or k 1) e ∙ (b ∙ (ap (λ (k : ℕ). k * 2 ^ 1 + 1) z ∙ (let f : n * 2 ^ 1 + 1 ≡ 2 * n + 1 = omega arith in f)))
