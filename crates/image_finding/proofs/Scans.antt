-- The log area in use: rules 5, 6 and 7.
use Rattle.std.proofs.Common.{◌≡◌, ◌≢◌, inl, inr, ℕ, ◌+◌, ◌<◌, ◌≤◌, List, [], ◌∷◌, ◌++◌, length, get_or, Option, Some, None, Result, Ok, Err, refl, sym, ◌∙◌, ap, arith, length-append}
use Rattle.std.proofs.lemmas.List.{get_or_past}
use Rattle.std.proofs.lemmas.Bool.{cases_lt}
use Rattle.disk_io.specs.Disk.{AreBytes}
use Rattle.page_store.specs.Image.{area_at}
use Rattle.log_records.specs.declared.record.Scanned.{Scanned}
use Rattle.log_records.specs.Spelling.{spelling}
use Rattle.log_records.specs.Area.{Entry, group, block, blocks, at_places, laid}
use Rattle.log_records.specs.Scan.{Fault, scanned}
use Rattle.txn_log.specs.Damaged.{Header, Device, first_block_ends, blocks_lie, records_read}
use Rattle.log_disk.specs.Bears.{end_of_first}
use Rattle.log_disk.specs.Found.{scan_fault, IsFound}
use Rattle.log_disk.proofs.Areas.{block_long}
use Rattle.log_disk.proofs.Placing.{six_or_seven, gates}
use Rattle.log_disk.proofs.Breaking.{breaks}
use Rattle.log_disk.proofs.Scanning.{scanned_are}
use Rattle.image_finding.specs.declared.fault.BadImage.{BadImage}
use Rattle.image_finding.specs.Rules.{IsRefused}
use Rattle.image_finding.specs.Headers.{StandsUpTo, area_in}
use Rattle.image_finding.proofs.Passing.{passes_next, refused_next}
use Rattle.image_finding.proofs.Heading.{header_is, same_header, first_end_is, scan_is}

-- ---- a scan's fault lies in the area

gate_inside : (area : List ℕ) (place : ℕ) → get_or area place 0 ≡ 165 → place < length area
gate_inside area place gate = elim (cases_lt place (length area)) [
  | inl less ↦ less
  | inr past ↦ absurd (let zero_is = get_or_past area place 0 past in omega (arith, zero_is, gate))
]

pub fault_inside : (area : List ℕ) (rule place : ℕ) → AreBytes area → scanned area ≡ Err (record { rule = rule; place = place }) → place < length area
fault_inside area rule place bytes h = elim (six_or_seven area (record { rule = rule; place = place }) h) [
  | inl six ↦ gate_inside area place (gates area place (h ∙ ap (λ r. Err (record { rule = r; place = place })) six))
  | inr seven ↦ (
      let at = breaks area place bytes (h ∙ ap (λ r. Err (record { rule = r; place = place })) seven) in
      let one : length area ≡ length (blocks at.before) + (length (block (group at.records ++ at.rest)) + length at.tail) =
      ap length at.split ∙ length-append (blocks at.before) (block (group at.records ++ at.rest) ++ at.tail) ∙ ap (λ n. length (blocks at.before) + n) (length-append (block (group at.records ++ at.rest)) at.tail) in
      let two : length (block (group at.records ++ at.rest)) ≡ 5 + length (group at.records ++ at.rest) = block_long (group at.records ++ at.rest) in
      let three = length-append (group at.records) at.rest in
      let place_is = at.place_is in
      let some = at.some in
      omega (arith, one, two, three, place_is, some))
]

-- ---- there are no more records than bytes

few_placed : (place : ℕ) (es : List Entry) → length (at_places place es) ≤ length (group es)
few_placed place [] = omega arith
few_placed place (e ∷ es) =
    let both = length-append (spelling e.number e.entry) (group es) in
    let rest = few_placed (place + length (spelling e.number e.entry)) es in
    omega (arith, both, rest)

few_laid : (place : ℕ) (groups : List (List Entry)) → length (laid place groups) ≤ length (blocks groups)
few_laid place [] = omega arith
few_laid place (es ∷ groups) =
    let records = length-append (at_places (place + 5) es) (laid (place + (5 + length (group es))) groups) in
    let bytes = length-append (block (group es)) (blocks groups) in
    let long = block_long (group es) in
    let here = few_placed (place + 5) es in
    let rest = few_laid (place + (5 + length (group es))) groups in
    omega (arith, records, bytes, long, here, rest)

pub few_scanned : (area : List ℕ) (read : List Scanned) → AreBytes area → scanned area ≡ Ok read → length read ≤ length area
few_scanned area read bytes is =
    let are = scanned_are area read bytes is in
    let both = length-append (blocks are.groups) are.tail in
    let few = few_laid 0 are.groups in
    omega (arith, ap length are.split, ap length are.read, both, few)

-- ---- rule 5

module _ (c : List ℕ) (h : Header) (stands : StandsUpTo 4 c h) where
  pub end_fails : (bad : BadImage) → end_of_first (area_in h c) ≢ Some h.redo → bad.rule ≡ 5 → bad.place ≡ h.place + 56 → IsRefused c bad
  end_fails bad other rule place = refused_next 4 c bad first_block_ends refl rule stands.passes (λ d found.
      (h, header_is c h stands.live d found, place, λ e. other (sym (first_end_is c h stands.live d found) ∙ e)))

  pub end_passes : end_of_first (area_in h c) ≡ Some h.redo → StandsUpTo 5 c h
  end_passes ends = record {
    live = stands.live;
    passes = passes_next 4 c first_block_ends refl stands.passes (λ d found place fails.
        fails.3 (first_end_is c h stands.live d found ∙ ends ∙ ap (λ (x : Header). Some x.redo) (sym (same_header c h stands.live d found fails.0 fails.1))));
  }

-- ---- rules 6 and 7

rule_in : Option (ℕ × ℕ) → ℕ
rule_in None = 0
rule_in (Some f) = f.0

same_rule : (r s p q : ℕ) → ◌≡◌ {A = Option (ℕ × ℕ)} (Some (r, p)) (Some (s, q)) → r ≡ s
unfolding rule_in
same_rule r s p q e = ap rule_in e

module _ (c : List ℕ) (h : Header) (stands : StandsUpTo 5 c h) where
  abbrev told : Option (ℕ × ℕ)
  told = scan_fault (area_at h.area_bytes h.area) (scanned (area_in h c))

  pub scan_fails : (bad : BadImage) → told ≡ Some (bad.rule, bad.place) → IsRefused c bad
  scan_fails bad tells = by (scanned (area_in h c)) refl
    where
      six : bad.rule ≡ 6 → IsRefused c bad
      six is = refused_next 5 c bad blocks_lie refl is stands.passes (λ d found. scan_is c h stands.live d found ∙ tells ∙ ap (λ r. Some (r, bad.place)) is)

      seven : bad.rule ≡ 7 → IsRefused c bad
      seven is = refused_next 6 c bad records_read refl is
          (passes_next 5 c blocks_lie refl stands.passes (λ d found place fails.
          let e = same_rule bad.rule 6 bad.place place (sym tells ∙ (sym (scan_is c h stands.live d found) ∙ fails)) in omega (arith, e, is)))
          (λ d found. scan_is c h stands.live d found ∙ tells ∙ ap (λ r. Some (r, bad.place)) is)

      by : (r : Result (List Scanned) Fault) → scanned (area_in h c) ≡ r → IsRefused c bad
      by (Ok read) is = absurd (let e : None ≡ Some (bad.rule, bad.place) = sym (ap (scan_fault (area_at h.area_bytes h.area)) is) ∙ tells in cc)
      by (Err f) is =
          let rule : f.rule ≡ bad.rule = same_rule f.rule bad.rule (area_at h.area_bytes h.area + f.place) bad.place (sym (ap (scan_fault (area_at h.area_bytes h.area)) is) ∙ tells) in
          elim (six_or_seven (area_in h c) f is) [
            | inl e ↦ six (sym rule ∙ e)
            | inr e ↦ seven (sym rule ∙ e)
          ]

  pub scan_passes : (read : List Scanned) → scanned (area_in h c) ≡ Ok read → StandsUpTo 7 c h
  scan_passes read is =
      let none : told ≡ None = ap (scan_fault (area_at h.area_bytes h.area)) is in
      let never : (d : Device) → IsFound c d → (f : ℕ × ℕ) → d.scan ≡ Some f → ⊥ =
      λ d found f fails. let e : None ≡ Some f = sym none ∙ (sym (scan_is c h stands.live d found) ∙ fails) in cc in
      record {
        live = stands.live;
        passes = passes_next 6 c records_read refl (passes_next 5 c blocks_lie refl stands.passes (λ d found place fails. never d found (6, place) fails)) (λ d found place fails. never d found (7, place) fails);
      }
