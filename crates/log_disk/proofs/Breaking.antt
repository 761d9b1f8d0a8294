-- Where a block is not whole records, the first byte of what is none stands.
use Rattle.std.proofs.Common.{◌≡◌, Bool, false, ◌==◌, if◌then◌else◌, ℕ, zero, suc, ◌+◌, ◌<◌, List, [], ◌∷◌, ◌++◌, length, drop, get_or, Option, Some, None, Result, Ok, Err, refl, sym, ◌∙◌, ap, arith, append_assoc, length-append}
use Rattle.std.proofs.lemmas.Bool.Decides.{nat_tests}
use Rattle.std.proofs.lemmas.Option.{none-some}
use Rattle.byteorder.specs.Endian.{big_number}
use Rattle.iv_types.proofs.ByteNumbers.{IsBytes, IsBytes-drop, IsBytes-take}
use Rattle.disk_io.specs.Disk.{part}
use Rattle.log_records.specs.declared.record.Record.{Record}
use Rattle.log_records.specs.declared.record.Scanned.{Scanned}
use Rattle.log_records.specs.Spelling.{spelling}
use Rattle.log_records.specs.Area.{Entry, group, block, blocks, BeginsWith, unplaced}
use Rattle.log_records.specs.Reading.{record_at}
use Rattle.log_records.specs.Scan.{Fault, with_before, or_seven, with_first, records, frame_size, holds_block, frames, and_then, all_records, of_frames, scanned}
use Rattle.log_records.proofs.RecordLaws.{record_takes, record_again}
use Rattle.table_laws.proofs.Tables.{by_bool}
use Rattle.log_disk.specs.Places.{BreaksAt, BreakLaw}
use Rattle.log_disk.proofs.Areas.{block_long}
use Rattle.log_disk.proofs.Placing.{joined_fault, one_fault, frames_gate}
use Rattle.log_disk.proofs.Scanning.{joined_ok, records_are, is_165, enough, front_block}

more_than : (bs : List ℕ) → (length bs == 0) ≡ false → 0 < length bs
more_than bs e = grind (arith, nat_tests)

-- ---- one block

-- whole records, and behind them bytes that begin with none
record StopsAt (at : ℕ) (bytes : List ℕ) (place : ℕ) : Type 0 where
  es : List Entry
  rest : List ℕ
  split : bytes ≡ group es ++ rest
  place_is : place ≡ at + length (group es)
  some : 0 < length rest
  none : (number : ℕ) (e : Record) → BeginsWith number e rest → ⊥

stops_here : (at place : ℕ) (bytes : List ℕ) (e : Fault) → e ≡ record { rule = 7; place = place } → record_at at bytes ≡ None → ◌≡◌ {A = Fault} (record { rule = 7; place = at }) e → 0 < length bytes → StopsAt at bytes place
stops_here at place bytes e is none same some = record {
  es = [];
  rest = bytes;
  split = refl;
  place_is = (let p = ap (λ (x : Fault). x.place) (same ∙ is) in omega (arith, p));
  some = some;
  none = λ number r begins.
      none-some _ (sym none ∙ (ap (record_at at) begins.split ∙ record_again at number r begins.rest begins.numbered begins.fits));
}

records_stop : (fuel at place : ℕ) (bytes : List ℕ) → IsBytes bytes → records fuel at bytes ≡ Err (record { rule = 7; place = place }) → StopsAt at bytes place
unfolding records
records_stop zero at place bytes fits h = absurd (cc)
records_stop (suc fuel) at place bytes fits h = by_bool (length bytes == 0)
    (λ t. absurd (let e : ◌≡◌ {A = Result (List Scanned) Fault} (Ok []) (Err (record { rule = 7; place = place })) = sym (ap either t) ∙ h in cc))
    (λ f. by (λ next rest is read. records_stop fuel next place rest is read) (more_than bytes f) (record_at at bytes) refl (sym (ap either f) ∙ h))
  where
    either : Bool → Result (List Scanned) Fault
    either b = if b then Ok [] else with_first (λ read. records fuel read.0.end read.1) (or_seven at (record_at at bytes))

    by : ((next : ℕ) (rest : List ℕ) → IsBytes rest → records fuel next rest ≡ Err (record { rule = 7; place = place }) → StopsAt next rest place)
        → 0 < length bytes → (o : Option (Scanned × List ℕ)) → record_at at bytes ≡ o → with_first (λ read. records fuel read.0.end read.1) (or_seven at o) ≡ Err (record { rule = 7; place = place }) → StopsAt at bytes place
    by later some None is k = stops_here at place bytes (record { rule = 7; place = place }) refl is (one_fault {X = List Scanned} _ _ k) some
    by later some (Some read) is k =
        let one = record_takes at bytes read.0 read.1 fits is in
        let text : List ℕ = spelling read.0.number read.0.entry in
        let rest = later read.0.end read.1 one.taken.rest_fits (joined_fault (read.0 ∷ []) (records fuel read.0.end read.1) _ k) in
        let size : read.0.end ≡ at + length text = omega (arith, one.end_is, ap length one.taken.parts, length-append text read.1) in
        record {
          es = unplaced read.0 ∷ rest.es;
          rest = rest.rest;
          split = one.taken.parts ∙ ap (λ (bs : List ℕ). text ++ bs) rest.split ∙ sym (append_assoc text (group rest.es) rest.rest);
          place_is = (let p = rest.place_is in omega (arith, p, size, length-append text (group rest.es)));
          some = rest.some;
          none = rest.none;
        }

-- ---- blocks

and_then_fault : (r more : Result (List Scanned) Fault) (e : Fault) → and_then r more ≡ Err e → (P : Type 0) → (r ≡ Err e → P) → ((xs : List Scanned) → r ≡ Ok xs → more ≡ Err e → P) → P
and_then_fault (Ok xs) more e h P f g = g xs refl (joined_fault xs more e h)
and_then_fault (Err x) more e h P f g = f h

-- the blocks from this place of an area on
record StopsBehind (at : ℕ) (bytes : List ℕ) (place : ℕ) : Type 0 where
  before : List (List Entry)
  es : List Entry
  rest : List ℕ
  tail : List ℕ
  split : bytes ≡ blocks before ++ (block (group es ++ rest) ++ tail)
  place_is : place ≡ at + (length (blocks before) + (5 + length (group es)))
  some : 0 < length rest
  none : (number : ℕ) (e : Record) → BeginsWith number e rest → ⊥

frames_stop : (fuel at place : ℕ) (bytes : List ℕ) (bs : List (ℕ × List ℕ)) → IsBytes bytes → frames fuel at bytes ≡ Ok bs → all_records bs ≡ Err (record { rule = 7; place = place }) → StopsBehind at bytes place
unfolding frames all_records
frames_stop zero at place bytes bs fits h k = absurd (let none : ◌≡◌ {A = Result (List (ℕ × List ℕ)) Fault} (Ok []) (Ok bs) = h in let same : [] ≡ bs = cc in let e = ap all_records same ∙ k in cc)
frames_stop (suc fuel) at place bytes bs fits h k = by_bool (get_or bytes 0 0 == 165)
    (λ t. by_bool (holds_block bytes)
    (λ yes. block_first (λ ps is read. frames_stop fuel (at + frame_size bytes) place (drop (frame_size bytes) bytes) ps (IsBytes-drop (frame_size bytes) bytes fits) is read)
    (is_165 (get_or bytes 0 0) t) (enough bytes yes) (sym (ap inner yes) ∙ (sym (ap outer t) ∙ h)))
    (λ no. absurd (let e : ◌≡◌ {A = Result (List (ℕ × List ℕ)) Fault} (Err (record { rule = 6; place = at })) (Ok bs) = sym (ap inner no) ∙ (sym (ap outer t) ∙ h) in cc)))
    (λ f. absurd (let none : ◌≡◌ {A = Result (List (ℕ × List ℕ)) Fault} (Ok []) (Ok bs) = sym (ap outer f) ∙ h in let same : [] ≡ bs = cc in let e = ap all_records same ∙ k in cc))
  where
    piece : List ℕ
    piece = part 5 (big_number 4 (drop 1 bytes)) bytes

    others : Result (List (ℕ × List ℕ)) Fault
    others = frames fuel (at + frame_size bytes) (drop (frame_size bytes) bytes)

    inner : Bool → Result (List (ℕ × List ℕ)) Fault
    inner b = if b then with_before ((at + 5, piece) ∷ []) others else Err (record { rule = 6; place = at })

    outer : Bool → Result (List (ℕ × List ℕ)) Fault
    outer b = if b then inner (holds_block bytes) else Ok []

    piece_fits : IsBytes piece
    piece_fits = IsBytes-take (big_number 4 (drop 1 bytes)) (drop 5 bytes) (IsBytes-drop 5 bytes fits)

    block_first : ((ps : List (ℕ × List ℕ)) → others ≡ Ok ps → all_records ps ≡ Err (record { rule = 7; place = place }) → StopsBehind (at + frame_size bytes) (drop (frame_size bytes) bytes) place)
        → get_or bytes 0 0 ≡ 165 → frame_size bytes < length bytes → with_before ((at + 5, piece) ∷ []) others ≡ Ok bs → StopsBehind at bytes place
    block_first next gate more j =
        let rest = joined_ok ((at + 5, piece) ∷ []) bs others j in
        let front = front_block bytes fits gate more in
        and_then_fault (records (length piece) (at + 5) piece) (all_records rest.0) (record { rule = 7; place = place }) (ap all_records (sym rest.2) ∙ k) (StopsBehind at bytes place)
        (λ bad.
        let this = records_stop (length piece) (at + 5) place piece piece_fits bad in
        record {
          before = [];
          es = this.es;
          rest = this.rest;
          tail = drop (frame_size bytes) bytes;
          split = front.0 ∙ ap (λ (l : List ℕ). block l ++ drop (frame_size bytes) bytes) this.split;
          place_is = (let p = this.place_is in omega (arith, p));
          some = this.some;
          none = this.none;
        })
        (λ xs good bad.
        let this = records_are (length piece) (at + 5) piece xs piece_fits (omega arith) good in
        let later = next rest.0 rest.1 bad in
        record {
          before = this.es ∷ later.before;
          es = later.es;
          rest = later.rest;
          tail = later.tail;
          split = front.0 ∙ (λ t. block (this.bytes_are t) ++ later.split t) ∙ sym (append_assoc (block (group this.es)) (blocks later.before) (block (group later.es ++ later.rest) ++ later.tail));
          place_is = (let p = later.place_is in omega (arith, p, front.1, ap length this.bytes_are, block_long (group this.es), length-append (block (group this.es)) (blocks later.before)));
          some = later.some;
          none = later.none;
        })

pub breaks : BreakLaw
unfolding scanned
breaks area place fits h = by (frames (length area) 0 area) refl h
  where
    by : (r : Result (List (ℕ × List ℕ)) Fault) → frames (length area) 0 area ≡ r → of_frames r ≡ Err (record { rule = 7; place = place }) → BreaksAt area place
    by (Ok bs) is k =
        let stop = frames_stop (length area) 0 place area bs fits is k in
        record { before = stop.before; records = stop.es; rest = stop.rest; tail = stop.tail; split = stop.split; place_is = (let p = stop.place_is in omega (arith, p)); some = stop.some; none = stop.none }
    by (Err e) is k =
        absurd (
        let six = (frames_gate (length area) 0 area e is).3 in
        let seven = ap (λ (x : Fault). x.rule) (one_fault {X = List Scanned} e (record { rule = 7; place = place }) k) in
        omega (arith, six, seven))
