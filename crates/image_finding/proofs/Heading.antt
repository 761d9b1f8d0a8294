-- Headers: how one is read, which is live, and the rules of the live one.
use Rattle.std.proofs.Common.{◌≡◌, ◌≢◌, inl, inr, Bool, true, false, ◌&&◌, ◌==◌, nat_le, ℕ, suc, ◌+◌, ◌-◌, ◌<◌, ◌≤◌, List, length, length-drop, get_or, take, drop, Option, Some, None, refl, sym, ◌∙◌, ap, subst, arith}
use Rattle.std.proofs.lemmas.List.{get_or-drop, take_all}
use Rattle.std.proofs.lemmas.Bool.{false≢true}
use Rattle.std.proofs.lemmas.Bool.Decides.{leb_tells}
use Rattle.std.specs.Str.{bytes_eq}
use Rattle.byteorder.specs.Endian.{big_number}
use Rattle.disk_io.specs.Disk.{part}
use Rattle.disk_io.specs.Bytes.{part-part, byte-part}
use Rattle.page_store.specs.Image.{header_at, number_at, magic, is_open, number_of, choose}
use Rattle.page_store.proofs.Old.{from_same}
use Rattle.txn_log.specs.Damaged.{Header, Device, FitsDevice, header_lives, format_known, sizes_fit, area_named}
use Rattle.log_disk.specs.Bears.{end_of_first}
use Rattle.log_disk.proofs.Living.{first_picked, second_picked}
use Rattle.log_disk.specs.Found.{opens_on, live_on, header_of, scan_fault, IsFound, IsFoundIn, IsFoundBy}
use Rattle.log_records.specs.Scan.{scanned}
use Rattle.page_store.specs.Image.{area_at}
use Rattle.image_finding.specs.declared.fault.BadImage.{BadImage}
use Rattle.image_finding.specs.declared.header.LiveHeader.{LiveHeader}
use Rattle.image_finding.specs.Rules.{IsRefused, PassesUpTo}
use Rattle.image_finding.specs.Headers.{as_header, fields_at, IsReadAs, IsLiveHeader, IsLiveIf, StandsUpTo, area_in, map_in}
use Rattle.image_finding.proofs.Passing.{passes_none, passes_next, refused_next}

-- ---- a header by its first bytes

-- a number in the bytes from a place on
pub tail_number : (n i : ℕ) (s : List ℕ) → big_number n (take (length s - i) (drop i s)) ≡ big_number n (drop i s)
tail_number n i s = ap (big_number n) (take_all (length s - i) (drop i s) (omega (arith, length-drop i s)))

module _ (side : ℕ) (s start : List ℕ) (is : start ≡ part (header_at side) 64 s) (fits : header_at side + 64 ≤ length s) where
  byte : (i : ℕ) → i < 64 → get_or start i 0 ≡ get_or s (header_at side + i) 0
  byte i lt = ap (λ (l : List ℕ). get_or l i 0) is ∙ byte-part (header_at side) 64 s i lt

  number : (n i : ℕ) → i + n ≤ 64 → number_at n i start ≡ number_at n (header_at side + i) s
  number n i inside = from_same 0 n (drop i start) (drop (header_at side + i) s) (λ k lo hi.
      get_or-drop i start k 0 ∙ byte (i + k) (omega (arith, hi, inside))
      ∙ ap (λ j. get_or s j 0) (let e : header_at side + (i + k) ≡ header_at side + i + k = omega arith in e) ∙ sym (get_or-drop (header_at side + i) s k 0))

  gate : get_or start 0 0 ≡ get_or s (header_at side) 0
  gate = byte 0 (omega arith) ∙ ap (λ j. get_or s j 0) (let e : header_at side + 0 ≡ header_at side = omega arith in e)

  name : part 1 7 start ≡ part (header_at side + 1) 7 s
  name = ap (part 1 7) is ∙ part-part (header_at side) 64 1 7 s (omega arith) fits

  open_same : is_open 0 start ≡ is_open side s
  open_same = λ t. (gate t == 165) && bytes_eq (name t) magic

  fields_same : fields_at (header_at side) start ≡ header_of side s
  fields_same = λ t. record {
    place = header_at side;
    format = number 4 8 (omega arith) t;
    pages = number 4 12 (omega arith) t;
    area_bytes = number 8 16 (omega arith) t;
    number = number 8 24 (omega arith) t;
    commits = number 8 32 (omega arith) t;
    next = number 8 40 (omega arith) t;
    area = byte 48 (omega arith) t;
    redo = number 8 56 (omega arith) t;
  }

and_false : (b : Bool) → (b && false) ≡ false
and_false true = refl
and_false false = refl

end_at : (side : ℕ) → header_at (suc side) ≡ header_at side + 139264
end_at side = omega arith

-- it does not lie on the device
pub off_device : (side : ℕ) (c : List ℕ) → length c < header_at side + 139264 → IsReadAs side c None
off_device side c short = elim (leb_tells (header_at (suc side)) (length c)) [
  | inl le ↦ absurd (let at = end_at side in let most = le.1 in omega (arith, at, most, short))
  | inr less ↦ ap (λ b. b && is_open side c) less.0
]

-- it is not open there
pub not_open : (side : ℕ) (c start : List ℕ) → header_at side + 139264 ≤ length c → start ≡ part (header_at side) 64 c → is_open 0 start ≡ false → IsReadAs side c None
not_open side c start long is shut =
    ap (λ b. nat_le (header_at (suc side)) (length c) && b) (sym (open_same side c start is (omega (arith, long))) ∙ shut) ∙ and_false (nat_le (header_at (suc side)) (length c))

-- it is
pub opened : (side : ℕ) (c start : List ℕ) (h : LiveHeader) → header_at side + 139264 ≤ length c → start ≡ part (header_at side) 64 c → is_open 0 start ≡ true → as_header h ≡ fields_at (header_at side) start
    → IsReadAs side c (Some h)
opened side c start h long is opens fields = elim (leb_tells (header_at (suc side)) (length c)) [
  | inl le ↦ (
    ap (λ b. b && is_open side c) le.0 ∙ (sym (open_same side c start is (omega (arith, long))) ∙ opens),
    fields ∙ fields_same side c start is (omega (arith, long)),
  )
  | inr less ↦ absurd (let at = end_at side in let more = less.1 in omega (arith, at, more, long))
]

-- ---- one of two

none_picked : (a b : Bool) (m n : ℕ) → a ≡ false → b ≡ false → choose a b m n ≡ None
none_picked true b m n e f = absurd (false≢true (sym e))
none_picked false true m n e f = absurd (false≢true (sym f))
none_picked false false m n e f = refl

abbrev number_in : LiveHeader → ℕ
number_in h = h.number

-- only the second can be
pub second_alone : (c : List ℕ) (second : Option LiveHeader) → IsReadAs 0 c None → IsReadAs 1 c second → IsLiveIf c second
second_alone c None first other = none_picked (opens_on 0 c) (opens_on 1 c) (number_of 0 c) (number_of 1 c) first other
second_alone c (Some h) first other = record {
  side = 1;
  lives = second_picked (opens_on 0 c) (opens_on 1 c) (number_of 0 c) (number_of 1 c) other.0 (λ e. absurd (false≢true (sym first ∙ e)));
  fields = other.1;
}

-- the first is, and the second is not
pub first_alone : (c : List ℕ) (h : LiveHeader) → IsReadAs 0 c (Some h) → IsReadAs 1 c None → IsLiveIf c (Some h)
first_alone c h first other = record {
  side = 0;
  lives = first_picked (opens_on 0 c) (opens_on 1 c) (number_of 0 c) (number_of 1 c) first.0 (λ e. absurd (false≢true (sym other ∙ e)));
  fields = first.1;
}

-- both are, and the second has no greater number
pub first_of_both : (c : List ℕ) (h k : LiveHeader) → IsReadAs 0 c (Some h) → IsReadAs 1 c (Some k) → k.number ≤ h.number → IsLiveIf c (Some h)
first_of_both c h k first other le =
    let m : h.number ≡ number_of 0 c = ap (λ (x : Header). x.number) first.1 in
    let n : k.number ≡ number_of 1 c = ap (λ (x : Header). x.number) other.1 in
    record {
      side = 0;
      lives = first_picked (opens_on 0 c) (opens_on 1 c) (number_of 0 c) (number_of 1 c) first.0 (λ e. omega (arith, le, m, n));
      fields = first.1;
    }

-- both are, and the second has the greater number
pub second_of_both : (c : List ℕ) (h k : LiveHeader) → IsReadAs 0 c (Some h) → IsReadAs 1 c (Some k) → h.number < k.number → IsLiveIf c (Some k)
second_of_both c h k first other less =
    let m : h.number ≡ number_of 0 c = ap (λ (x : Header). x.number) first.1 in
    let n : k.number ≡ number_of 1 c = ap (λ (x : Header). x.number) other.1 in
    record {
      side = 1;
      lives = second_picked (opens_on 0 c) (opens_on 1 c) (number_of 0 c) (number_of 1 c) other.0 (λ e. omega (arith, less, m, n));
      fields = other.1;
    }

-- ---- what is found by the live header

found_of : (c : List ℕ) (d : Device) (k : ℕ) → IsFound c d → live_on c ≡ Some k → IsFoundBy k c d
found_of c d k found lives = subst (λ o. IsFoundIn o c d) lives found.by

module _ (c : List ℕ) (h : Header) (live : IsLiveHeader c h) (d : Device) (found : IsFound c d) where
  abbrev by : IsFoundBy live.side c d
  by = found_of c d live.side found live.lives

  pub header_is : d.header ≡ Some h
  header_is = by.header ∙ ap Some (sym live.fields)

  pub same_header : (x : Header) → d.header ≡ Some x → x ≡ h
  same_header x is = let e : Some x ≡ Some h = sym is ∙ header_is in cc

  pub first_end_is : d.first_end ≡ end_of_first (area_in h c)
  first_end_is = by.first_end ∙ ap (λ (x : Header). end_of_first (area_in x c)) (sym live.fields)

  pub scan_is : d.scan ≡ scan_fault (area_at h.area_bytes h.area) (scanned (area_in h c))
  scan_is = by.scan ∙ ap (λ (x : Header). scan_fault (area_at x.area_bytes x.area) (scanned (area_in x c))) (sym live.fields)

  pub map_is : d.map ≡ map_in h c
  map_is = by.map ∙ ap (λ (x : Header). map_in x c) (sym live.fields)

-- ---- rules 1 to 4

pub none_lives : (c : List ℕ) (bad : BadImage) → live_on c ≡ None → bad.rule ≡ 1 → bad.place ≡ 0 → IsRefused c bad
none_lives c bad none rule place = refused_next 0 c bad header_lives refl rule (passes_none c) (λ d found. (subst (λ o. IsFoundIn o c d) none found.by, place))

pub one_lives : (c : List ℕ) (h : Header) → IsLiveHeader c h → StandsUpTo 1 c h
one_lives c h live = record {
  live = live;
  passes = passes_next 0 c header_lives refl (passes_none c) (λ d found place fails. let e : None ≡ Some h = sym fails.0 ∙ header_is c h live d found in cc);
}

module _ (c : List ℕ) (h : Header) (stands : StandsUpTo 1 c h) where
  pub format_fails : (bad : BadImage) → h.format ≢ 1 → bad.rule ≡ 2 → bad.place ≡ h.place + 8 → IsRefused c bad
  format_fails bad other rule place = refused_next 1 c bad format_known refl rule stands.passes (λ d found. (h, header_is c h stands.live d found, place, other))

  module _ (format : h.format ≡ 1) where
    two : PassesUpTo 2 c
    two = passes_next 1 c format_known refl stands.passes (λ d found place fails.
        fails.3 (ap (λ (x : Header). x.format) (same_header c h stands.live d found fails.0 fails.1) ∙ format))

    pub sizes_fail : (bad : BadImage) → (FitsDevice h (length c) → ⊥) → bad.rule ≡ 3 → bad.place ≡ h.place + 12 → IsRefused c bad
    sizes_fail bad never rule place = refused_next 2 c bad sizes_fit refl rule two (λ d found.
        (h, header_is c h stands.live d found, place, λ fits. never (subst (FitsDevice h) found.bytes fits)))

    module _ (fits : FitsDevice h (length c)) where
      three : PassesUpTo 3 c
      three = passes_next 2 c sizes_fit refl two (λ d found place fails.
          fails.3 (subst (λ (x : Header). FitsDevice x d.bytes) (sym (same_header c h stands.live d found fails.0 fails.1)) (subst (FitsDevice h) (sym found.bytes) fits)))

      pub area_fails : (bad : BadImage) → 1 < h.area → bad.rule ≡ 4 → bad.place ≡ h.place + 48 → IsRefused c bad
      area_fails bad more rule place = refused_next 3 c bad area_named refl rule three (λ d found. (h, header_is c h stands.live d found, place, more))

      pub header_passes : h.area ≤ 1 → StandsUpTo 4 c h
      header_passes le = record {
        live = stands.live;
        passes = passes_next 3 c area_named refl three (λ d found place fails.
            let same : fails.0.area ≡ h.area = ap (λ (x : Header). x.area) (same_header c h stands.live d found fails.0 fails.1) in
            let more : 1 < fails.0.area = fails.3 in
            omega (arith, same, more, le));
      }
