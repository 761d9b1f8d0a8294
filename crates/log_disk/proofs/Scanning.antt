-- An area of bytes that is scanned begins with the blocks of the records that are scanned.
use Rattle.std.proofs.Common.{◌≡◌, ◌≢◌, Bool, true, false, ◌==◌, nat_lt, not, ◌&&◌, if◌then◌else◌, ℕ, zero, suc, ◌+◌, ◌<◌, ◌≤◌, List, [], ◌∷◌, ◌++◌, length, take, drop, get_or, Option, Some, None, Result, Ok, Err, refl, sym, ◌∙◌, ap, arith, append_assoc, length-append, length-take, length-drop}
use Rattle.std.proofs.lemmas.Bool.Decides.{nat_tests}
use Rattle.std.proofs.lemmas.List.{take-append-drop, drop-drop}
use Rattle.byteorder.specs.Endian.{big_bytes, big_number}
use Rattle.iv_types.proofs.ByteNumbers.{IsBytes, IsBytes-rest, IsBytes-drop, IsBytes-take, back}
use Rattle.disk_io.specs.Disk.{part}
use Rattle.log_records.specs.declared.record.Scanned.{Scanned}
use Rattle.log_records.specs.Spelling.{spelling}
use Rattle.log_records.specs.Area.{Entry, group, block, blocks, at_place, at_places, laid, unplaced}
use Rattle.log_records.specs.Reading.{record_at}
use Rattle.log_records.specs.Scan.{Fault, with_before, or_seven, with_first, records, frame_size, holds_block, frames, and_then, all_records, of_frames, scanned}
use Rattle.log_records.proofs.RecordLaws.{IsScanned, record_takes}
use Rattle.table_laws.proofs.Tables.{by_bool}
use Rattle.wal_log.proofs.KeptLaws.{block_is}

pub is_empty : (bs : List ℕ) → length bs ≤ 0 → bs ≡ []
is_empty [] le = refl
is_empty (b ∷ bs) le = absurd (omega arith)

pub none_of : (bs : List ℕ) → (length bs == 0) ≡ true → length bs ≤ 0
none_of bs e = grind (arith, nat_tests)

ok_same : {X : Type 0} (x y : X) → ◌≡◌ {A = Result X Fault} (Ok x) (Ok y) → x ≡ y
ok_same x y e = cc

pub joined_ok : {X : Type 0} (xs zs : List X) (r : Result (List X) Fault) → with_before xs r ≡ Ok zs → (ys : List X) × (r ≡ Ok ys) × (zs ≡ xs ++ ys)
joined_ok {X = X} xs zs (Ok ys) h = (ys, refl, sym (ok_same (xs ++ ys) zs h))
joined_ok xs zs (Err f) h = absurd (cc)

and_then_ok : (r more : Result (List Scanned) Fault) (zs : List Scanned) → and_then r more ≡ Ok zs → (xs : List Scanned) × (ys : List Scanned) × (r ≡ Ok xs) × (more ≡ Ok ys) × (zs ≡ xs ++ ys)
and_then_ok (Ok xs) more zs h = let j = joined_ok xs zs more h in (xs, j.0, refl, j.1, j.2)
and_then_ok (Err f) more zs h = absurd (cc)

-- ---- the records of one block

-- these bytes are those of records, which are scanned from this place on
pub record AreRead (place : ℕ) (bytes : List ℕ) (ss : List Scanned) : Type 0 where
  pub es : List Entry
  pub bytes_are : bytes ≡ group es
  pub read : ss ≡ at_places place es

one_more : (place : ℕ) (bytes rest : List ℕ) (s : Scanned) (ss ys : List Scanned) → IsScanned place bytes s rest → ss ≡ s ∷ ys → AreRead s.end rest ys → AreRead place bytes ss
one_more place bytes rest s ss ys is split h =
    let size : s.end ≡ place + length (spelling s.number s.entry) = omega (arith, is.end_is, ap length is.taken.parts, length-append (spelling s.number s.entry) rest) in
    let this : s ≡ at_place place (unplaced s) = λ i. record { place = is.place_is i; end = size i; number = s.number; entry = s.entry } in
    record {
      es = unplaced s ∷ h.es;
      bytes_are = is.taken.parts ∙ ap (λ (bs : List ℕ). spelling s.number s.entry ++ bs) h.bytes_are;
      read = split ∙ (λ t. this t ∷ (h.read ∙ ap (λ n. at_places n h.es) size) t);
    }

pub records_are : (fuel place : ℕ) (bytes : List ℕ) (ss : List Scanned) → IsBytes bytes → length bytes ≤ fuel → records fuel place bytes ≡ Ok ss → AreRead place bytes ss
unfolding records
records_are zero place bytes ss fits le h = record { es = []; bytes_are = is_empty bytes le; read = sym (ok_same [] ss h) }
records_are (suc fuel) place bytes ss fits le h = by_bool (length bytes == 0)
    (λ t. record { es = []; bytes_are = is_empty bytes (none_of bytes t); read = sym (ok_same [] ss (sym (ap either t) ∙ h)) })
    (λ f. by (λ at rest ys is shorter read. records_are fuel at rest ys is shorter read) (record_at place bytes) refl (sym (ap either f) ∙ h))
  where
    either : Bool → Result (List Scanned) Fault
    either b = if b then Ok [] else with_first (λ read. records fuel read.0.end read.1) (or_seven place (record_at place bytes))

    by : ((at : ℕ) (rest : List ℕ) (ys : List Scanned) → IsBytes rest → length rest ≤ fuel → records fuel at rest ≡ Ok ys → AreRead at rest ys)
        → (o : Option (Scanned × List ℕ)) → record_at place bytes ≡ o → with_first (λ read. records fuel read.0.end read.1) (or_seven place o) ≡ Ok ss → AreRead place bytes ss
    by next None is k = absurd (cc)
    by next (Some read) is k =
        let j = joined_ok (read.0 ∷ []) ss (records fuel read.0.end read.1) k in
        let one = record_takes place bytes read.0 read.1 fits is in
        let shorter : length read.1 ≤ fuel = omega (arith, le, ap length one.taken.parts, length-append (spelling read.0.number read.0.entry) read.1) in
        one_more place bytes read.1 read.0 ss j.0 one j.2 (next read.0.end read.1 j.0 one.taken.rest_fits shorter j.1)

-- ---- blocks

-- blocks begin these bytes, their records are scanned from this place on, and no open gate is behind them
pub record AreBlocks (place : ℕ) (bytes : List ℕ) (ss : List Scanned) : Type 0 where
  pub groups : List (List Entry)
  pub tail : List ℕ
  pub split : bytes ≡ blocks groups ++ tail
  pub read : ss ≡ laid place groups
  pub shut : get_or tail 0 0 ≢ 165

pub is_165 : (n : ℕ) → (n == 165) ≡ true → n ≡ 165
is_165 n e = grind (arith, nat_tests)

not_165 : (n : ℕ) → (n == 165) ≡ false → n ≢ 165
not_165 n e same = grind (arith, nat_tests)

pub enough : (bytes : List ℕ) → holds_block bytes ≡ true → frame_size bytes < length bytes
enough bytes e = by (nat_lt (length bytes) 5) (nat_lt (length bytes) (frame_size bytes + 1)) refl e
  where
    not_less : (m n : ℕ) → nat_lt m n ≡ false → n ≤ m
    not_less m n e = grind (arith, nat_tests)

    by : (a b : Bool) → nat_lt (length bytes) (frame_size bytes + 1) ≡ b → (not a && not b) ≡ true → frame_size bytes < length bytes
    by true b is k = absurd (cc)
    by false true is k = absurd (cc)
    by false false is k = let le = not_less (length bytes) (frame_size bytes + 1) is in omega (arith, le)

-- a gate, a length and so many bytes are a block
pub front_block : (bytes : List ℕ) → IsBytes bytes → get_or bytes 0 0 ≡ 165 → frame_size bytes < length bytes
    → (bytes ≡ block (part 5 (big_number 4 (drop 1 bytes)) bytes) ++ drop (frame_size bytes) bytes) × (length (part 5 (big_number 4 (drop 1 bytes)) bytes) ≡ big_number 4 (drop 1 bytes))
front_block [] fits gate le = absurd (omega (arith, gate))
front_block (b ∷ bs) fits gate le =
    let n : ℕ = big_number 4 bs in
    let rest : List ℕ = drop 4 bs in
    let piece : List ℕ = take n rest in
    let long : length piece ≡ n = omega (arith, length-take n rest, length-drop 4 bs, le) in
    let number : big_bytes 4 n ≡ take 4 bs = back 4 bs (IsBytes-rest b bs fits) (omega (arith, le)) in
    let inner : piece ++ drop n rest ≡ rest = take-append-drop n rest in
    let behind : drop n rest ≡ drop (frame_size (b ∷ bs)) (b ∷ bs) = drop-drop n 4 bs ∙ ap (λ k. drop k (b ∷ bs)) (let e : suc (4 + n) ≡ 5 + n = omega arith in e) in
    let whole : block piece ++ drop n rest ≡ 165 ∷ (take 4 bs ++ rest) =
    ap (λ (l : List ℕ). l ++ drop n rest) (block_is piece)
    ∙ (λ t. 165 ∷ append_assoc (big_bytes 4 (length piece)) piece (drop n rest) t)
    ∙ (λ t. 165 ∷ ((ap (big_bytes 4) long ∙ number) t ++ inner t)) in (
      (λ t. gate t ∷ sym (take-append-drop 4 bs) t) ∙ sym whole ∙ ap (λ (l : List ℕ). block piece ++ l) behind,
      long,
    )

frames_are : (fuel place : ℕ) (bytes : List ℕ) (bs : List (ℕ × List ℕ)) (ss : List Scanned) → IsBytes bytes → length bytes ≤ fuel → frames fuel place bytes ≡ Ok bs → all_records bs ≡ Ok ss
    → AreBlocks place bytes ss
unfolding frames all_records
frames_are zero place bytes bs ss fits le h k =
    let none : [] ≡ bs = ok_same [] bs h in
    let empty : bytes ≡ [] = is_empty bytes le in
    record { groups = []; tail = bytes; split = refl; read = sym (ok_same [] ss (ap all_records none ∙ k)); shut = λ e. (let z : get_or bytes 0 0 ≡ 0 = ap (λ (l : List ℕ). get_or l 0 0) empty in omega (arith, e, z)) }
frames_are (suc fuel) place bytes bs ss fits le h k = by_bool (get_or bytes 0 0 == 165)
    (λ t. by_bool (holds_block bytes)
    (λ yes. block_first (λ more ps ys is read. frames_are fuel (place + frame_size bytes) (drop (frame_size bytes) bytes) ps ys (IsBytes-drop (frame_size bytes) bytes fits)
    (omega (arith, le, more, length-drop (frame_size bytes) bytes)) is read) (is_165 (get_or bytes 0 0) t) (enough bytes yes) (sym (ap inner yes) ∙ (sym (ap outer t) ∙ h)))
    (λ no. absurd (let e : ◌≡◌ {A = Result (List (ℕ × List ℕ)) Fault} (Err (record { rule = 6; place = place })) (Ok bs) = sym (ap inner no) ∙ (sym (ap outer t) ∙ h) in cc)))
    (λ f.
    let none : [] ≡ bs = ok_same [] bs (sym (ap outer f) ∙ h) in
    record { groups = []; tail = bytes; split = refl; read = sym (ok_same [] ss (ap all_records none ∙ k)); shut = not_165 (get_or bytes 0 0) f })
  where
    piece : List ℕ
    piece = part 5 (big_number 4 (drop 1 bytes)) bytes

    others : Result (List (ℕ × List ℕ)) Fault
    others = frames fuel (place + frame_size bytes) (drop (frame_size bytes) bytes)

    inner : Bool → Result (List (ℕ × List ℕ)) Fault
    inner b = if b then with_before ((place + 5, piece) ∷ []) others else Err (record { rule = 6; place = place })

    outer : Bool → Result (List (ℕ × List ℕ)) Fault
    outer b = if b then inner (holds_block bytes) else Ok []

    block_first : (frame_size bytes < length bytes → (ps : List (ℕ × List ℕ)) (ys : List Scanned) → others ≡ Ok ps → all_records ps ≡ Ok ys → AreBlocks (place + frame_size bytes) (drop (frame_size bytes) bytes) ys)
        → get_or bytes 0 0 ≡ 165 → frame_size bytes < length bytes → with_before ((place + 5, piece) ∷ []) others ≡ Ok bs → AreBlocks place bytes ss
    block_first next gate more j =
        let rest = joined_ok ((place + 5, piece) ∷ []) bs others j in
        let both = and_then_ok (records (length piece) (place + 5) piece) (all_records rest.0) ss (ap all_records (sym rest.2) ∙ k) in
        let front = front_block bytes fits gate more in
        let this = records_are (length piece) (place + 5) piece both.0 (IsBytes-take (big_number 4 (drop 1 bytes)) (drop 5 bytes) (IsBytes-drop 5 bytes fits)) (omega arith) both.2 in
        let later = next more rest.0 both.1 rest.1 both.3 in
        let size : place + frame_size bytes ≡ place + (5 + length (group this.es)) = omega (arith, front.1, ap length this.bytes_are) in
        record {
          groups = this.es ∷ later.groups;
          tail = later.tail;
          split = front.0 ∙ (λ t. block (this.bytes_are t) ++ later.split t) ∙ sym (append_assoc (block (group this.es)) (blocks later.groups) later.tail);
          read = both.4 ∙ (λ t. this.read t ++ (later.read ∙ ap (λ n. laid n later.groups) size) t);
          shut = later.shut;
        }

pub scanned_are : (area : List ℕ) (ss : List Scanned) → IsBytes area → scanned area ≡ Ok ss → AreBlocks 0 area ss
unfolding scanned
scanned_are area ss fits h = by (frames (length area) 0 area) refl h
  where
    by : (r : Result (List (ℕ × List ℕ)) Fault) → frames (length area) 0 area ≡ r → of_frames r ≡ Ok ss → AreBlocks 0 area ss
    by (Ok bs) is k = frames_are (length area) 0 area bs ss fits (omega arith) is k
    by (Err e) is k = absurd (cc)
