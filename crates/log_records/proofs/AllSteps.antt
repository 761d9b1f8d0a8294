-- Reading block after block.
use Rattle.std.proofs.Common.{◌≡◌, ℕ, ◌+◌, ◌-◌, ◌≤◌, ◌<◌, zero, suc, List, [], ◌∷◌, length, take, drop, get_or, map, Result, Ok, Err, refl, sym, ◌∙◌, ap, subst, arith}
use Rattle.std.proofs.lemmas.List.{drop_more, drop_all, append-nil}
use Rattle.std.specs.List.{AllByRecursion}
use Rattle.log_records.specs.declared.record.Scanned.{Scanned}
use Rattle.log_records.specs.Scan.{Fault, with_before, records, framed, and_then, all_records, of_frames, frames, scanned}
use Rattle.log_records.specs.Scan.{Answers}
use Rattle.log_records.specs.declared.fault.ScanFault.{ScanFault}
use Rattle.log_records.proofs.RecordSteps.{joined_joined}

pub all_at : (P : ℕ × ℕ → Type 0) (xs : List (ℕ × ℕ)) (i : ℕ) (d : ℕ × ℕ) → AllByRecursion P xs → i < length xs → P (get_or xs i d)
all_at P [] i d all lt = absurd (omega (arith, lt))
all_at P (x ∷ xs) zero d all lt = all.0
all_at P (x ∷ xs) (suc i) d all lt = all_at P xs i d all.1 (omega (arith, lt))

ok_same : {A : Type 0} {x y : A} {p q : Result A Fault} → p ≡ Ok x → q ≡ Ok y → p ≡ q → x ≡ y
ok_same a b is = cc

ok_not_err : {A : Type 0} {x : A} {f : Fault} {p q : Result A Fault} → p ≡ Ok x → q ≡ Err f → p ≡ q → ⊥
ok_not_err a b is = cc

pub step_ok : (xs ys : List Scanned) (e r : Result (List Scanned) Fault) → with_before xs e ≡ Ok ys → with_before xs (and_then e r) ≡ with_before ys r
step_ok xs ys (Ok zs) r is = joined_joined xs zs r ∙ ap (λ l. with_before l r) (ok_same refl refl is)
step_ok xs ys (Err f) r is = absurd (ok_not_err refl refl (sym is))

module _ (area : List ℕ) (found : List (ℕ × ℕ)) (i : ℕ) (xs : List Scanned) (b : ℕ × ℕ) (lt : i < length found) (is : b ≡ get_or found i (0, 0)) (inv : with_before xs (all_records (map (framed area) (drop i found))) ≡ all_records (map (framed area) found)) where
  abbrev piece : List ℕ
  piece = (framed area b).1

  split : all_records (map (framed area) (drop i found)) ≡ and_then (records (length piece) b.0 piece) (all_records (map (framed area) (drop (i + 1) found)))
  unfolding all_records
  split = ap (λ l. all_records (map (framed area) l)) (drop_more found i (0, 0) lt ∙ ap (λ x. x ∷ drop (i + 1) found) (sym is))

  pub block_ok : (ys : List Scanned) → with_before xs (records (length piece) b.0 piece) ≡ Ok ys → with_before ys (all_records (map (framed area) (drop (i + 1) found))) ≡ all_records (map (framed area) found)
  block_ok ys ok = sym (step_ok xs ys (records (length piece) b.0 piece) (all_records (map (framed area) (drop (i + 1) found))) ok) ∙ ap (with_before xs) (sym split) ∙ inv

  pub block_err : (f : Fault) → records (length piece) b.0 piece ≡ Err f → all_records (map (framed area) found) ≡ Err f
  block_err f bad = sym inv ∙ ap (with_before xs) (split ∙ ap (λ e. and_then e (all_records (map (framed area) (drop (i + 1) found)))) bad)

pub scanned_is : (area : List ℕ) → scanned area ≡ of_frames (frames (length area) 0 area)
unfolding scanned
scanned_is area = refl

pub piece_is : (b : ℕ × ℕ) (area : List ℕ) → take (b.0 + b.1 - b.0) (drop b.0 area) ≡ (framed area b).1
piece_is b area = ap (λ n. take n (drop b.0 area)) (let e : b.0 + b.1 - b.0 ≡ b.1 = omega arith in e)

pub at_all : (area : List ℕ) (found : List (ℕ × ℕ)) (i : ℕ) (xs : List Scanned) → with_before xs (all_records (map (framed area) (drop i found))) ≡ all_records (map (framed area) found) → length found ≤ i → all_records (map (framed area) found) ≡ Ok xs
unfolding all_records
at_all area found i xs inv past = sym inv ∙ ap (λ l. with_before xs (all_records (map (framed area) l))) (drop_all i found past) ∙ ap Ok (append-nil xs)

pub answers_along : {X Y : Type 0} (f : X → Y) (r : Result X ScanFault) (q p : Result Y Fault) → p ≡ q → Answers f r q → Answers f r p
answers_along f r q p e h = subst (Answers f r) (sym e) h
