-- Finding the blocks of an area, one by one.
use Rattle.std.proofs.Common.{◌≡◌, true, false, ◌==◌, if◌then◌else◌, ℕ, zero, suc, ◌+◌, ◌-◌, ◌<◌, List, [], ◌∷◌, ◌++◌, take, drop, get_or, map, Result, Ok, Err, refl, sym, ◌∙◌, ap, arith}
use Rattle.std.proofs.lemmas.List.{drop-drop, map_push}
use Rattle.std.specs.List.{AllByRecursion}
use Rattle.byteorder.specs.Endian.{big_number}
use Rattle.disk_io.specs.Disk.{part}
use Rattle.log_records.specs.Scan.{Fault, with_before, frames, framed, frame_size, holds_block}
use Rattle.log_records.proofs.RecordSteps.{joined_joined, joined_nil}

pub all_push : {A : Type 0} (P : A → Type 0) (xs : List A) (x : A) → AllByRecursion P xs → P x → AllByRecursion P (xs ++ x ∷ [])
all_push P [] x all px = (px, tt)
all_push P (y ∷ xs) x all px = (all.0, all_push P xs x all.1 px)

abbrev inner : ℕ → ℕ → List ℕ → Result (List (ℕ × List ℕ)) Fault
inner fuel place bytes = with_before ((place + 5, part 5 (big_number 4 (drop 1 bytes)) bytes) ∷ []) (frames fuel (place + frame_size bytes) (drop (frame_size bytes) bytes))

pub frames_shut : (fuel place : ℕ) (bytes : List ℕ) → (get_or bytes 0 0 == 165) ≡ false → frames fuel place bytes ≡ Ok []
unfolding frames
frames_shut zero place bytes shut = refl
frames_shut (suc fuel) place bytes shut = (λ i. if shut i then (if holds_block bytes then inner fuel place bytes else Err (record { rule = 6; place = place })) else Ok [])

pub frames_bad : (fuel place : ℕ) (bytes : List ℕ) → (get_or bytes 0 0 == 165) ≡ true → holds_block bytes ≡ false → frames (suc fuel) place bytes ≡ Err (record { rule = 6; place = place })
unfolding frames
frames_bad fuel place bytes opens bad = (λ i. if opens i then (if bad i then inner fuel place bytes else Err (record { rule = 6; place = place })) else Ok [])

pub frames_step : (fuel place : ℕ) (bytes : List ℕ) → (get_or bytes 0 0 == 165) ≡ true → holds_block bytes ≡ true → frames (suc fuel) place bytes ≡ inner fuel place bytes
unfolding frames
frames_step fuel place bytes opens holds = (λ i. if opens i then (if holds i then inner fuel place bytes else Err (record { rule = 6; place = place })) else Ok [])

module _ (place : ℕ) (area : List ℕ) (found : List (ℕ × ℕ)) (n i : ℕ) (all : Result (List (ℕ × List ℕ)) Fault) (steps : with_before (map (framed area) found) (frames (n - i) place (drop place area)) ≡ all) where
  pub found_shut : (get_or (drop place area) 0 0 == 165) ≡ false → all ≡ Ok (map (framed area) found)
  found_shut shut = sym steps ∙ ap (with_before (map (framed area) found)) (frames_shut (n - i) place (drop place area) shut) ∙ joined_nil (map (framed area) found)

  pub found_last : n ≡ i → all ≡ Ok (map (framed area) found)
  unfolding frames
  found_last e = sym steps ∙ ap (λ f. with_before (map (framed area) found) (frames f place (drop place area))) (let z : n - i ≡ 0 = omega arith in z) ∙ joined_nil (map (framed area) found)

  pub found_bad : i < n → (get_or (drop place area) 0 0 == 165) ≡ true → holds_block (drop place area) ≡ false → all ≡ Err (record { rule = 6; place = place })
  found_bad lt opens bad = sym steps
      ∙ ap (λ f. with_before (map (framed area) found) (frames f place (drop place area))) (let z : n - i ≡ suc (n - i - 1) = omega arith in z)
      ∙ ap (with_before (map (framed area) found)) (frames_bad (n - i - 1) place (drop place area) opens bad)

  pub found_more : (size : ℕ) → i < n → (get_or (drop place area) 0 0 == 165) ≡ true → holds_block (drop place area) ≡ true → size ≡ frame_size (drop place area)
      → with_before (map (framed area) (found ++ (place + 5, size - 5) ∷ [])) (frames (n - (i + 1)) (place + size) (drop (place + size) area)) ≡ all
  found_more size lt opens holds is =
      ap (λ l. with_before l (frames (n - (i + 1)) (place + size) (drop (place + size) area))) (map_push (framed area) found (place + 5, size - 5))
      ∙ sym (joined_joined (map (framed area) found) (framed area (place + 5, size - 5) ∷ []) (frames (n - (i + 1)) (place + size) (drop (place + size) area)))
      ∙ ap (with_before (map (framed area) found)) (
      ap (λ f. with_before (framed area (place + 5, size - 5) ∷ []) (frames f (place + size) (drop (place + size) area))) (let z : n - (i + 1) ≡ n - i - 1 = omega arith in z)
      ∙ ap (λ b. with_before ((place + 5, b) ∷ []) (frames (n - i - 1) (place + size) (drop (place + size) area))) records
      ∙ ap (λ (l : List ℕ). with_before ((place + 5, part 5 (big_number 4 (drop 1 (drop place area))) (drop place area)) ∷ []) (frames (n - i - 1) (place + size) l)) (sym (drop-drop size place area))
      ∙ ap (λ k. with_before ((place + 5, part 5 (big_number 4 (drop 1 (drop place area))) (drop place area)) ∷ []) (frames (n - i - 1) (place + k) (drop k (drop place area)))) is
      ∙ sym (frames_step (n - i - 1) place (drop place area) opens holds)
      ∙ ap (λ f. frames f place (drop place area)) (let z : suc (n - i - 1) ≡ n - i = omega arith in z))
      ∙ steps
    where
      records : part (place + 5) (size - 5) area ≡ part 5 (big_number 4 (drop 1 (drop place area))) (drop place area)
      records = ap (λ k. part (place + 5) k area) (let e : size - 5 ≡ big_number 4 (drop 1 (drop place area)) = omega (arith, is) in e) ∙ ap (take (big_number 4 (drop 1 (drop place area)))) (sym (drop-drop 5 place area))
