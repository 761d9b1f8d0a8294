-- What was flushed is what is scanned.
use Rattle.std.proofs.Common.{◌≡◌, ◌≢◌, true, false, not, ◌&&◌, nat_lt, ◌==◌, if◌then◌else◌, ℕ, zero, suc, ◌+◌, ◌<◌, ◌≤◌, List, [], ◌∷◌, ◌++◌, length, take, drop, get_or, Option, Some, None, Result, Ok, Err, refl, ◌∙◌, ap, arith, append_assoc, length-append}
use Rattle.std.specs.Result.{IfOk}
use Rattle.std.proofs.lemmas.Bool.Decides.{nat_tests}
use Rattle.std.proofs.lemmas.List.{take_at, drop_at, drop_all}
use Rattle.std.specs.List.{AllByRecursion}
use Rattle.byteorder.specs.Endian.{big_bytes, big_number}
use Rattle.byteorder.specs.Numbers.{big_number-reads_back}
use Rattle.disk_io.specs.Disk.{part}
use Rattle.log_records.specs.declared.record.Record.{Record}
use Rattle.log_records.specs.declared.record.Scanned.{Scanned}
use Rattle.log_records.specs.declared.fault.ScanFault.{ScanFault}
use Rattle.log_records.specs.Spelling.{spelling}
use Rattle.log_records.specs.Area.{Entry, group, block, blocks, Begins, BeginsWith, IsSmall, FitsBlock, at_place, at_places, laid, unplaced}
use Rattle.log_records.specs.Reading.{record_at}
use Rattle.log_records.specs.Scan.{Fault, Answers, with_before, or_seven, with_first, without_rest, records, frame_size, frames, and_then, all_records, of_frames, scanned}
use Rattle.iv_types.proofs.ByteNumbers.{IsBytes}
use Rattle.log_records.proofs.RecordLaws.{record_takes, record_again}
use Rattle.log_records.proofs.RecordSteps.{records_some, eq_false}

lt_false : (m n : ℕ) → n ≤ m → nat_lt m n ≡ false
lt_false m n le = grind (arith, nat_tests)

pub records_group : (fuel place : ℕ) (es : List Entry) → length (group es) ≤ fuel → AllByRecursion IsSmall es → records fuel place (group es) ≡ Ok (at_places place es)
unfolding records
records_group zero place [] le all = refl
records_group zero place (e ∷ es) le all = absurd (omega (arith, le, length-append (spelling e.number e.entry) (group es)))
records_group (suc fuel) place [] le all = refl
records_group (suc fuel) place (e ∷ es) le all =
    let whole = length-append (spelling e.number e.entry) (group es) in
    records_some fuel place (spelling e.number e.entry ++ group es) (omega (arith, whole))
    ∙ ap (λ r. with_first (λ read. records fuel read.0.end read.1) (or_seven place r)) (record_again place e.number e.entry (group es) all.0.numbered all.0.fits)
    ∙ ap (with_before (at_place place e ∷ [])) (records_group fuel (place + length (spelling e.number e.entry)) es (omega (arith, le, whole)) all.1)

of_joined : (b : ℕ × List ℕ) (xs : List Scanned) (r : Result (List (ℕ × List ℕ)) Fault) → records (length b.1) b.0 b.1 ≡ Ok xs → of_frames (with_before (b ∷ []) r) ≡ with_before xs (of_frames r)
unfolding all_records
of_joined b xs (Ok bs) is = ap (λ r. and_then r (all_records bs)) is
of_joined b xs (Err e) is = refl

module _ (es : List Entry) (rest : List ℕ) (fits : FitsBlock es) (more : 0 < length rest) where
  abbrev bytes : List ℕ
  bytes = 165 ∷ (big_bytes 4 (length (group es)) ++ group es) ++ rest

  length_is : big_number 4 (drop 1 bytes) ≡ length (group es)
  length_is = big_number-reads_back 4 (length (group es)) (group es ++ rest) fits.short

  bytes_length : length bytes ≡ length (group es) + 5 + length rest
  bytes_length = omega (arith, length-append (group es) rest)

  frame_whole : (not (nat_lt (length bytes) 5) && not (nat_lt (length bytes) (frame_size bytes + 1))) ≡ true
  frame_whole =
      let a : nat_lt (length bytes) 5 ≡ false = lt_false _ 5 (omega (arith, bytes_length)) in
      let c : nat_lt (length bytes) (frame_size bytes + 1) ≡ false = lt_false _ _ (omega (arith, bytes_length, length_is, more)) in
      (λ i. not (a i) && not (c i))

  frame_part : part 5 (big_number 4 (drop 1 bytes)) bytes ≡ group es
  frame_part = ap (λ n. take n (group es ++ rest)) length_is ∙ take_at (group es) rest (length (group es)) refl

  frame_rest : drop (frame_size bytes) bytes ≡ rest
  frame_rest = ap (λ n. drop (5 + n) bytes) length_is ∙ drop_at (165 ∷ (big_bytes 4 (length (group es)) ++ group es)) rest (5 + length (group es)) (omega arith)

  pub frame_step : (fuel place : ℕ) → of_frames (frames (suc fuel) place bytes) ≡ with_before (at_places (place + 5) es) (of_frames (frames fuel (place + (5 + length (group es))) rest))
  unfolding frames
  frame_step fuel place =
      (λ i. of_frames (if frame_whole i then with_before ((place + 5, part 5 (big_number 4 (drop 1 bytes)) bytes) ∷ []) (frames fuel (place + frame_size bytes) (drop (frame_size bytes) bytes)) else Err (record { rule = 6; place = place })))
      ∙ (λ i. of_frames (with_before ((place + 5, frame_part i) ∷ []) (frames fuel (place + frame_size bytes) (frame_rest i))))
      ∙ of_joined (place + 5, group es) (at_places (place + 5) es) (frames fuel (place + frame_size bytes) rest) (records_group (length (group es)) (place + 5) es (omega arith) fits.small)
      ∙ ap (λ n. with_before (at_places (place + 5) es) (of_frames (frames fuel (place + (5 + n)) rest))) length_is

pub frames_blocks : (fuel place : ℕ) (groups : List (List Entry)) (tail : List ℕ) → length (blocks groups ++ tail) ≤ fuel → 0 < length tail → get_or tail 0 0 ≢ 165 → AllByRecursion FitsBlock groups
    → of_frames (frames fuel place (blocks groups ++ tail)) ≡ Ok (laid place groups)
unfolding frames all_records block
frames_blocks zero place groups tail le more shut all = absurd (omega (arith, length-append (blocks groups) tail))
frames_blocks (suc fuel) place [] tail le more shut all =
    let closed : (get_or tail 0 0 == 165) ≡ false = eq_false _ 165 shut in
    (λ i. of_frames (if closed i then (if not (nat_lt (length tail) 5) && not (nat_lt (length tail) (frame_size tail + 1)) then with_before ((place + 5, part 5 (big_number 4 (drop 1 tail)) tail) ∷ []) (frames fuel (place + frame_size tail) (drop (frame_size tail) tail)) else Err (record { rule = 6; place = place })) else Ok []))
frames_blocks (suc fuel) place (es ∷ groups) tail le more shut all =
    let rest = blocks groups ++ tail in
    let longer : 0 < length rest = omega (arith, length-append (blocks groups) tail) in
    let whole : blocks (es ∷ groups) ++ tail ≡ 165 ∷ (big_bytes 4 (length (group es)) ++ group es) ++ rest = append_assoc (block (group es)) (blocks groups) tail in
    ap (λ (l : List ℕ). of_frames (frames (suc fuel) place l)) whole
    ∙ frame_step es rest all.0 longer fuel place
    ∙ ap (with_before (at_places (place + 5) es)) (frames_blocks fuel _ groups tail (omega (arith, le, ap length whole, bytes_length es rest all.0 longer)) more shut all.1)

-- an area that begins with blocks is scanned as their records
pub scanned_begins : (groups : List (List Entry)) (area : List ℕ) → Begins groups area → AllByRecursion FitsBlock groups → scanned area ≡ Ok (laid 0 groups)
unfolding scanned
scanned_begins groups area begins all =
    ap (λ (l : List ℕ). of_frames (frames (length area) 0 l)) begins.split
    ∙ frames_blocks (length area) 0 groups begins.tail (omega (arith, ap length begins.split)) begins.more begins.shut all

-- ---- one record

pub nothing_past : (place : ℕ) (bytes : List ℕ) → length bytes ≤ place → record_at place (drop place bytes) ≡ None
unfolding record_at
nothing_past place bytes past = ap (record_at place) (drop_all place bytes past)

abbrev done : Scanned → Result Scanned Fault
done x = Ok x

ok_read : (place : ℕ) (o : Option (Scanned × List ℕ)) (s : Scanned) → without_rest (or_seven place o) ≡ Ok s → (rest : List ℕ) × (o ≡ Some (s, rest))
ok_read place (Some read) s is = (read.1, ap (λ (x : Scanned). Some (x, read.1)) (same is))
  where
    same : {x y : Scanned} → done x ≡ done y → x ≡ y
    same is = cc
ok_read place None s is = absurd (wrong is)
  where
    wrong : {x : Scanned} {f : Fault} → Err f ≡ Ok x → ⊥
    wrong is = cc

abbrev pub Found : ℕ → List ℕ → Scanned → Type 0
Found place bytes s = BeginsWith s.number s.entry bytes × (s ≡ at_place place (unplaced s))

pub is_found : (place : ℕ) (bytes : List ℕ) (r : Result Scanned ScanFault) → IsBytes bytes → Answers (λ x. x) r (without_rest (or_seven place (record_at place bytes))) → IfOk r (Found place bytes)
is_found place bytes (Err e) fits given = tt
is_found place bytes (Ok s) fits given =
    let read = ok_read place (record_at place bytes) s given in
    let is = record_takes place bytes s read.0 fits read.1 in
    let size : s.end ≡ place + length (spelling s.number s.entry) = omega (arith, is.end_is, ap length is.taken.parts, length-append (spelling s.number s.entry) read.0) in
    (record { numbered = is.numbered; fits = is.small; rest = read.0; split = is.taken.parts }, (λ i. record { place = is.place_is i; end = size i; number = s.number; entry = s.entry }))

pub is_only : (place number : ℕ) (e : Record) (l : List ℕ) → BeginsWith number e l → without_rest (or_seven place (record_at place l)) ≡ Ok (at_place place (record { number = number; entry = e }))
is_only place number e l begins =
    ap (λ (l : List ℕ). without_rest (or_seven place (record_at place l))) begins.split
    ∙ ap (λ r. without_rest (or_seven place r)) (record_again place number e begins.rest begins.numbered begins.fits)
