-- What is found stands where it is found.
use Rattle.std.proofs.Common.{◌⊎◌, inl, inr, ◌≡◌, Bool, true, ◌==◌, if◌then◌else◌, ℕ, zero, suc, ◌+◌, ◌*◌, List, [], ◌∷◌, length, drop, get_or, Option, Some, None, Ok, Err, refl, sym, ◌∙◌, ap, subst, arith}
use Rattle.std.specs.Prelude.{◌↔◌, Result}
use Rattle.std.specs.List.{Contains, range_with_len}
use Rattle.std.proofs.lemmas.Bool.Decides.{nat_tests}
use Rattle.std.proofs.lemmas.Option.{none-some}
use Rattle.std.proofs.lemmas.List.{get_or-drop}
use Rattle.byteorder.specs.Endian.{big_number}
use Rattle.disk_io.specs.Disk.{part}
use Rattle.page_store.specs.Image.{header_at, area_at, slot_at, area_of, area_size_of, pages_of, map_byte}
use Rattle.slot_page.specs.Page.{IsLeaf}
use Rattle.log_records.specs.declared.record.Scanned.{Scanned}
use Rattle.log_records.specs.Reading.{record_at}
use Rattle.log_records.specs.Scan.{Fault, with_before, or_seven, with_first, records, frame_size, holds_block, frames, and_then, all_records, of_frames, scanned}
use Rattle.table_laws.proofs.Tables.{by_bool}
use Rattle.txn_machine.proofs.Basics.{contains_none}
use Rattle.txn_log.specs.Damaged.{Header, Page, Device}
use Rattle.txn_log.proofs.Placing.{in_rest}
use Rattle.log_disk.specs.Bears.{page_entries}
use Rattle.log_disk.specs.Found.{live_on, header_of, scan_fault, IsPageOf, StandsFirst, ArePagesOf, IsFoundBy, IsFoundIn}
use Rattle.log_disk.specs.Places.{PageStands, IsFaultAt, Stands, PlacesLaw, GateLaw}

-- ---- pages

page_stands : (c : List ℕ) (place : ℕ) (p : Page) → IsPageOf place (part place 8192 c) p → PageStands c p
page_stands c place p is =
    let there : ((p.formed ≡ true) ↔ IsLeaf (part p.place 8192 c)) × (p.entries ≡ page_entries (part p.place 8192 c)) =
    subst (λ n. ((p.formed ≡ true) ↔ IsLeaf (part n 8192 c)) × (p.entries ≡ page_entries (part n 8192 c))) (sym is.at) (is.leaf, is.entries) in
    record { leaf = there.0; entries = there.1 }

stand_first : (room p m : ℕ) (c : List ℕ) (Others : List Page → Type 0) (found : List Page) → StandsFirst room p m c Others found
    → ((others : List Page) → Others others → (f : Page) → Contains others f → PageStands c f) → (f : Page) → Contains found f → PageStands c f
stand_first room p zero c Others found h others f among = others found h f among
stand_first room p (suc j) c Others [] h others f among = absurd h
stand_first room p (suc j) c Others (g ∷ found) h others f among = in_rest g f found among
    (λ same. subst (PageStands c) same (page_stands c (slot_at room p j) g h.0))
    (λ later. others found h.1 f later)

all_stand : (room k : ℕ) (c : List ℕ) (ps : List ℕ) (found : List Page) → ArePagesOf room k c ps found → (f : Page) → Contains found f → PageStands c f
all_stand room k c [] found h f among = absurd (contains_none f (subst (λ (fs : List Page). Contains fs f) h among))
all_stand room k c (p ∷ ps) found h f among = stand_first room p (map_byte k p c) c (ArePagesOf room k c ps) found h (all_stand room k c ps) f among

-- ---- the scan

some_pair : {x y : ℕ × ℕ} → Some x ≡ Some y → x ≡ y
some_pair h = cc

pub one_fault : {X : Type 0} (e f : Fault) → ◌≡◌ {A = Result X Fault} (Err e) (Err f) → e ≡ f
one_fault e f h = cc

module _ (c : List ℕ) (h : Header) where
  abbrev at : ℕ
  at = area_at h.area_bytes h.area

  fault_at : (r : Result (List Scanned) Fault) → scanned (part at h.area_bytes c) ≡ r → (rule place : ℕ) → (scan_fault at r ≡ Some (rule, place)) ↔ IsFaultAt c h rule place
  fault_at (Ok rs) is rule place = (
    (λ e. absurd (none-some (rule, place) e)),
    (λ f. absurd (let e : ◌≡◌ {A = Result (List Scanned) Fault} (Ok rs) (Err f.fault) = sym is ∙ f.scan in cc)),
  )
  fault_at (Err e) is rule place = (
    (λ same. record { fault = e; scan = is; rule_is = ap (λ (x : ℕ × ℕ). x.0) (some_pair same); place_is = ap (λ (x : ℕ × ℕ). x.1) (some_pair same) }),
    (λ f.
        let same : f.fault ≡ e = one_fault {X = List Scanned} f.fault e (sym f.scan ∙ is) in
        λ t. Some ((ap (λ (x : Fault). x.rule) (sym same) ∙ f.rule_is) t, (ap (λ (x : Fault). at + x.place) (sym same) ∙ f.place_is) t)),
  )

stand_by : (k : ℕ) (c : List ℕ) (d : Device) → IsFoundBy k c d → Stands c d (header_of k c)
stand_by k c d by = record {
  header = record { format = refl; pages = refl; area_bytes = refl; number = refl; commits = refl; next = refl; area = refl; redo = refl; map = by.map };
  stored = all_stand (area_size_of k c) k c (range_with_len 0 (pages_of k c)) d.stored by.stored;
  first_end = by.first_end;
  scan = λ rule place. subst (λ o. (o ≡ Some (rule, place)) ↔ IsFaultAt c (header_of k c) rule place) (sym by.scan)
      (fault_at c (header_of k c) (scanned (part (area_at (area_size_of k c) (area_of k c)) (area_size_of k c) c)) refl rule place);
}

some_header : {g h : Header} → Some g ≡ Some h → g ≡ h
some_header e = cc

pub places : PlacesLaw
places c d found h is = by (live_on c) refl found.by
  where
    by : (o : Option ℕ) → live_on c ≡ o → IsFoundIn o c d → (k : ℕ) × (live_on c ≡ Some k) × (h.place ≡ 139264 * k) × Stands c d h
    by None lives none = absurd (none-some h (sym none ∙ is))
    by (Some k) lives here =
        let same : header_of k c ≡ h = some_header (sym here.header ∙ is) in
        (k, lives, ap (λ (x : Header). x.place) (sym same) ∙ (let e : header_at k ≡ 139264 * k = omega arith in e), subst (Stands c d) same (stand_by k c d here))

-- ---- gates

pub joined_fault : {X : Type 0} (xs : List X) (r : Result (List X) Fault) (e : Fault) → with_before xs r ≡ Err e → r ≡ Err e
joined_fault xs (Ok ys) e h = absurd (cc)
joined_fault xs (Err f) e h = h

records_seven : (fuel place : ℕ) (bytes : List ℕ) (e : Fault) → records fuel place bytes ≡ Err e → e.rule ≡ 7
unfolding records
records_seven zero place bytes e h = absurd (cc)
records_seven (suc fuel) place bytes e h = by_bool (length bytes == 0)
    (λ t. absurd (let n : ◌≡◌ {A = Result (List Scanned) Fault} (Ok []) (Err e) = sym (ap (λ b. if b then Ok [] else with_first (λ read. records fuel read.0.end read.1) (or_seven place (record_at place bytes))) t) ∙ h in cc))
    (λ f. by (λ read. records_seven fuel read.0.end read.1 e) (record_at place bytes) (sym (ap (λ b. if b then Ok [] else with_first (λ read. records fuel read.0.end read.1) (or_seven place (record_at place bytes))) f) ∙ h))
  where
    by : ((read : Scanned × List ℕ) → records fuel read.0.end read.1 ≡ Err e → e.rule ≡ 7) → (o : Option (Scanned × List ℕ)) → with_first (λ read. records fuel read.0.end read.1) (or_seven place o) ≡ Err e → e.rule ≡ 7
    by later None is = ap (λ (x : Fault). x.rule) (sym (one_fault {X = List Scanned} (record { rule = 7; place = place }) e is))
    by later (Some read) is = later read (joined_fault (read.0 ∷ []) (records fuel read.0.end read.1) e is)

all_seven : (bs : List (ℕ × List ℕ)) (e : Fault) → all_records bs ≡ Err e → e.rule ≡ 7
unfolding all_records
all_seven [] e h = absurd (cc)
all_seven (b ∷ bs) e h = by (all_seven bs e) (records (length b.1) b.0 b.1) refl h
  where
    by : (all_records bs ≡ Err e → e.rule ≡ 7) → (r : Result (List Scanned) Fault) → records (length b.1) b.0 b.1 ≡ r → and_then r (all_records bs) ≡ Err e → e.rule ≡ 7
    by later (Ok xs) is k = later (joined_fault xs (all_records bs) e k)
    by later (Err f) is k = records_seven (length b.1) b.0 b.1 e (is ∙ k)

is_165 : (n : ℕ) → (n == 165) ≡ true → n ≡ 165
is_165 n e = grind (arith, nat_tests)

-- frames fail at an open gate
pub frames_gate : (fuel place : ℕ) (bytes : List ℕ) (e : Fault) → frames fuel place bytes ≡ Err e → (n : ℕ) × (e.place ≡ place + n) × (get_or bytes n 0 ≡ 165) × (e.rule ≡ 6)
unfolding frames
frames_gate zero place bytes e h = absurd (cc)
frames_gate (suc fuel) place bytes e h = by_bool (get_or bytes 0 0 == 165)
    (λ t. by_bool (holds_block bytes)
    (λ yes.
    let rest = joined_fault ((place + 5, part 5 (big_number 4 (drop 1 bytes)) bytes) ∷ []) (frames fuel (place + frame_size bytes) (drop (frame_size bytes) bytes)) e (sym (ap inner yes) ∙ (sym (ap outer t) ∙ h)) in
    let one = frames_gate fuel (place + frame_size bytes) (drop (frame_size bytes) bytes) e rest in
    let at = one.1 in
    (frame_size bytes + one.0, omega (arith, at), sym (get_or-drop (frame_size bytes) bytes one.0 0) ∙ one.2, one.3))
    (λ no.
    let this = one_fault {X = List (ℕ × List ℕ)} (record { rule = 6; place = place }) e (sym (ap inner no) ∙ (sym (ap outer t) ∙ h)) in
    let same = ap (λ (x : Fault). x.place) this in
    (0, omega (arith, same), is_165 (get_or bytes 0 0) t, sym (ap (λ (x : Fault). x.rule) this))))
    (λ f. absurd (let n : ◌≡◌ {A = Result (List (ℕ × List ℕ)) Fault} (Ok []) (Err e) = sym (ap outer f) ∙ h in cc))
  where
    inner : Bool → Result (List (ℕ × List ℕ)) Fault
    inner b = if b then with_before ((place + 5, part 5 (big_number 4 (drop 1 bytes)) bytes) ∷ []) (frames fuel (place + frame_size bytes) (drop (frame_size bytes) bytes)) else Err (record { rule = 6; place = place })

    outer : Bool → Result (List (ℕ × List ℕ)) Fault
    outer b = if b then inner (holds_block bytes) else Ok []

-- a scan fails by rule 6 or 7
pub six_or_seven : (area : List ℕ) (e : Fault) → scanned area ≡ Err e → (e.rule ≡ 6) ⊎ (e.rule ≡ 7)
unfolding scanned
six_or_seven area e h = by (frames (length area) 0 area) refl h
  where
    by : (r : Result (List (ℕ × List ℕ)) Fault) → frames (length area) 0 area ≡ r → of_frames r ≡ Err e → (e.rule ≡ 6) ⊎ (e.rule ≡ 7)
    by (Ok bs) is k = inr (all_seven bs e k)
    by (Err f) is k = inl (ap (λ (x : Fault). x.rule) (sym (one_fault {X = List Scanned} f e k)) ∙ (frames_gate (length area) 0 area f is).3)

pub gates : GateLaw
unfolding scanned
gates area place h = by (frames (length area) 0 area) refl h
  where
    by : (r : Result (List (ℕ × List ℕ)) Fault) → frames (length area) 0 area ≡ r → of_frames r ≡ Err (record { rule = 6; place = place }) → get_or area place 0 ≡ 165
    by (Ok bs) is k = absurd (let seven = all_seven bs (record { rule = 6; place = place }) k in omega (arith, seven))
    by (Err e) is k =
        let same = ap (λ (x : Fault). x.place) (one_fault {X = List Scanned} e (record { rule = 6; place = place }) k) in
        let gate = frames_gate (length area) 0 area e is in
        let at = gate.1 in
        ap (λ n. get_or area n 0) (let e : place ≡ gate.0 = omega (arith, same, at) in e) ∙ gate.2
