-- What the last deltas of a list count, of which the first in the other order are left out.
use Rattle.std.specs.Prelude.{◌≡◌, ℕ, zero, suc, ◌+◌, ◌-◌, Bool, true, false, cond, List, [], ◌∷◌, ◌++◌, map, drop, take, length, reverse, refl}
use Rattle.std.specs.List.{sum}
use mathlib.Core.Path.{sym, ap, ◌∙◌}
use mathlib.Core.Logic.{inl, inr}
use Rattle.std.proofs.Common.{arith, length-drop}
use Rattle.std.proofs.Math.ListN.{drop_of_length-le}
use Rattle.std.proofs.Math.Seq.{drop-append_seam}
use Rattle.std.proofs.lemmas.Bool.{cases_lt}
use Rattle.std.proofs.lemmas.List.{length-reverse, reverse-append, take-append-drop}
use Rattle.iv_types.specs.declared.lock.GroupDelta.{GroupDelta}
use Rattle.txn_machine.specs.Log.{delta_entry, unghosted}
use Rattle.txn_machine.proofs.LogSums.{sum_first}
use Rattle.txn_log.proofs.Defining.{sum_append}

-- in the other order they count the same
sum_reverse : {X : Type 0} (f : X → ℕ) (xs : List X) → sum (map f (reverse xs)) ≡ sum (map f xs)
sum_reverse f [] = refl
sum_reverse f (x ∷ xs) =
    let turned = ap (λ l. sum (map f l)) (reverse-append (x ∷ []) xs) in
    let parts = sum_append f (reverse xs) (x ∷ []) in
    let rest = sum_reverse f xs in
    let one = sum_first (f x) (map f xs) in
    let alone = sum_first (f x) [] in
    omega (arith, turned, parts, rest, one, alone)

-- the first of a list are left out where the last are of it in the other order
pub last_is : {X : Type 0} (k : ℕ) (xs : List X) → drop k (reverse xs) ≡ reverse (take (length xs - k) xs)
last_is {X} k xs = elim (cases_lt (length xs) k) [
  | inl few ↦
      let long : length (reverse xs) ≡ length xs = length-reverse xs in
      let none : length xs - k ≡ 0 = omega (arith, few) in
      drop_of_length-le (reverse xs) {i = k} (omega (arith, few, long)) ∙ sym (ap (λ n. reverse (take n xs)) none)
  | inr enough ↦
      let n : ℕ = length xs - k in
      let behind : List X = reverse (drop n xs) in
      let whole : reverse xs ≡ behind ++ reverse (take n xs) = ap reverse (sym (take-append-drop n xs)) ∙ reverse-append (take n xs) (drop n xs) in
      let long : length behind ≡ length (drop n xs) = length-reverse (drop n xs) in
      let left : length (drop n xs) ≡ length xs - n = length-drop n xs in
      let same : k ≡ length behind = omega (arith, enough, long, left) in
      ap (drop k) whole ∙ (ap (λ m. drop m (behind ++ reverse (take n xs))) same ∙ drop-append_seam behind (reverse (take n xs)))
]

none_left : {X : Type 0} (n : ℕ) → drop {A = X} n [] ≡ []
none_left zero = refl
none_left (suc n) = refl

drop_one : {X : Type 0} (n : ℕ) (xs : List X) → drop 1 (drop n xs) ≡ drop (n + 1) xs
drop_one zero xs = refl
drop_one (suc n) [] = sym (none_left (suc n + 1))
drop_one (suc n) (x ∷ xs) = drop_one n xs ∙ ap (λ m. drop m (x ∷ xs)) (more n)
  where
    more : (n : ℕ) → suc (n + 1) ≡ suc n + 1
    more n = omega arith

without_first : (ds : List GroupDelta) → unghosted true ds ≡ drop 1 ds
without_first [] = refl
without_first (d ∷ ds) = refl

unghosted_is : (ghosted : Bool) (back : ℕ) (ds : List GroupDelta) → unghosted ghosted (drop back ds) ≡ drop (back + cond ghosted 1 0) ds
unghosted_is true back ds = without_first (drop back ds) ∙ drop_one back ds
unghosted_is false back ds = ap (λ n. drop n ds) (none back)
  where
    none : (n : ℕ) → n ≡ n + 0
    none n = omega arith

-- what is still owed counts what so many from the other end do
pub still_counts : (ghosted : Bool) (back : ℕ) (ds : List GroupDelta)
    → sum (map delta_entry (unghosted ghosted (drop back (reverse ds)))) ≡ sum (map delta_entry (take (length ds - (back + cond ghosted 1 0)) ds))
still_counts ghosted back ds =
    ap (λ l. sum (map delta_entry l)) (unghosted_is ghosted back (reverse ds) ∙ last_is (back + cond ghosted 1 0) ds)
    ∙ sum_reverse delta_entry (take (length ds - (back + cond ghosted 1 0)) ds)
