-- Reading the records of a block, one by one.
use Rattle.std.proofs.Common.{◌≡◌, true, false, ◌==◌, if◌then◌else◌, ℕ, zero, suc, ◌+◌, ◌-◌, ◌<◌, List, [], ◌∷◌, ◌++◌, length, Result, Ok, Err, refl, sym, ◌∙◌, ap, arith, append_assoc}
use Rattle.std.proofs.lemmas.List.{append-nil}
use Rattle.std.proofs.lemmas.Bool.Decides.{nat_tests}
use Rattle.log_records.specs.declared.record.Scanned.{Scanned}
use Rattle.log_records.specs.declared.fault.ScanFault.{ScanFault}
use Rattle.log_records.specs.declared.fault.ScanFault.TheVariants as faults
use Rattle.log_records.specs.Reading.{record_at}
use Rattle.log_records.specs.Scan.{Fault, Fails, with_before, or_seven, with_first, records}

pub eq_false : (m n : ℕ) → (m ≡ n → ⊥) → (m == n) ≡ false
eq_false m n ne = grind (arith, nat_tests)

pub eq_true : (m n : ℕ) → m ≡ n → (m == n) ≡ true
eq_true m n e = grind (arith, nat_tests)

pub eq_of : (m n : ℕ) → (m == n) ≡ true → m ≡ n
eq_of m n e = grind (arith, nat_tests)

pub more_of : (m : ℕ) → (m == 0) ≡ false → 0 < m
more_of m e = grind (arith, nat_tests)

pub joined_joined : {A : Type 0} (xs ys : List A) (r : Result (List A) Fault) → with_before xs (with_before ys r) ≡ with_before (xs ++ ys) r
joined_joined xs ys (Ok zs) = ap Ok (sym (append_assoc xs ys zs))
joined_joined xs ys (Err e) = refl

pub joined_err : {A : Type 0} (xs : List A) (r : Result (List A) Fault) (e : Fault) → with_before xs r ≡ Err e → r ≡ Err e
joined_err xs (Ok ys) e is = absurd (ok_err is)
  where
    ok_err : {B : Type 0} {b : B} {f : Fault} → Ok b ≡ Err f → ⊥
    ok_err is = cc
joined_err xs (Err f) e is = is

pub joined_nil : {A : Type 0} (xs : List A) → with_before xs (Ok []) ≡ Ok xs
joined_nil xs = ap Ok (append-nil xs)

pub fails_along : {A B : Type 0} (e : ScanFault) (r : Result A Fault) (q : Result B Fault) → ((f : Fault) → r ≡ Err f → q ≡ Err f) → Fails e r → Fails e q
fails_along faults.NoMemory r q on h = tt
fails_along (faults.Bad rule place) r q on h = on _ h

pub records_empty : (fuel place : ℕ) (bytes : List ℕ) → length bytes ≡ 0 → records fuel place bytes ≡ Ok []
unfolding records
records_empty zero place bytes none = refl
records_empty (suc fuel) place bytes none =
    (λ i. if eq_true (length bytes) 0 none i then Ok [] else with_first (λ read. records fuel read.0.end read.1) (or_seven place (record_at place bytes)))

pub records_some : (fuel place : ℕ) (bytes : List ℕ) → 0 < length bytes → records (suc fuel) place bytes ≡ with_first (λ read. records fuel read.0.end read.1) (or_seven place (record_at place bytes))
unfolding records
records_some fuel place bytes some =
    (λ i. if eq_false (length bytes) 0 (λ is. absurd (omega (arith, is, some))) i then Ok [] else with_first (λ read. records fuel read.0.end read.1) (or_seven place (record_at place bytes)))

-- the loop
module _ (place at : ℕ) (rest block : List ℕ) (xs olds : List Scanned) (n i : ℕ) (steps : with_before xs (records (n - i) at rest) ≡ with_before olds (records n place block)) where
  pub at_end : (length rest ≡ 0) → with_before olds (records n place block) ≡ Ok xs
  at_end none = sym steps ∙ ap (with_before xs) (records_empty (n - i) at rest none) ∙ joined_nil xs

  pub at_last : n ≡ i → with_before olds (records n place block) ≡ Ok xs
  unfolding records
  at_last e = sym steps ∙ ap (λ f. with_before xs (records f at rest)) (let z : n - i ≡ 0 = omega arith in z) ∙ joined_nil xs

  step : i < n → 0 < length rest → with_before xs (with_first (λ read. records (n - i - 1) read.0.end read.1) (or_seven at (record_at at rest))) ≡ with_before olds (records n place block)
  step lt some =
      ap (with_before xs) (sym (records_some (n - i - 1) at rest some)) ∙ ap (λ f. with_before xs (records f at rest)) (let z : suc (n - i - 1) ≡ n - i = omega arith in z) ∙ steps

  pub at_bad : (e : ScanFault) → i < n → 0 < length rest → Fails e (or_seven at (record_at at rest)) → Fails e (records n place block)
  at_bad e lt some bad = fails_along e (or_seven at (record_at at rest)) (records n place block) (λ f is.
      joined_err olds (records n place block) f (sym (step lt some) ∙ ap (λ r. with_before xs (with_first (λ read. records (n - i - 1) read.0.end read.1) r)) is)) bad

  pub at_more : (s : Scanned) (after : List ℕ) → i < n → 0 < length rest → or_seven at (record_at at rest) ≡ Ok (s, after)
      → with_before (xs ++ s ∷ []) (records (n - (i + 1)) s.end after) ≡ with_before olds (records n place block)
  at_more s after lt some read =
      sym (joined_joined xs (s ∷ []) (records (n - (i + 1)) s.end after))
      ∙ ap (λ f. with_before xs (with_before (s ∷ []) (records f s.end after))) (let z : n - (i + 1) ≡ n - i - 1 = omega arith in z)
      ∙ sym (ap (λ r. with_before xs (with_first (λ read. records (n - i - 1) read.0.end read.1) r)) read)
      ∙ step lt some
