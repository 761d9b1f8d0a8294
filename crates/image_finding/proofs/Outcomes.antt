-- What is known of an outcome, case by case.
use Rattle.std.proofs.Common.{◌≡◌, Bool, true, false, if◌then◌else◌, ℕ, zero, suc, ◌+◌, ◌-◌, ◌<◌, List, get_or, Option, Some, None, Result, Ok, Err, refl, sym, ◌∙◌, ap, subst, arith}
use Rattle.std.specs.Prelude.{IfOk, OnOk}
use Rattle.std.specs.Bool.{OnTrue}
use Rattle.iv_types.specs.declared.fault.Failed.{Failed}
use Rattle.disk_io.specs.Disk.{part}
use Rattle.page_store.specs.Image.{area_at, slot_at, named}
use Rattle.slot_page.specs.Page.{IsLeaf}
use Rattle.log_records.specs.declared.record.Scanned.{Scanned}
use Rattle.log_records.specs.Scan.{scanned}
use Rattle.txn_log.specs.Damaged.{Header}
use Rattle.log_disk.specs.Found.{scan_fault}
use Rattle.image_finding.specs.declared.fault.BadImage.{BadImage}
use Rattle.image_finding.specs.declared.fault.FindFault.{FindFault}
use Rattle.image_finding.specs.declared.fault.FindFault.TheVariants as faults
use Rattle.image_finding.specs.Faults.{told_by, IfBad}
use Rattle.image_finding.specs.Rules.{IsRefused}
use Rattle.image_finding.specs.Headers.{StandsUpTo, area_in, map_in}
use Rattle.image_finding.specs.Maps.{IsLow, IsLeafIf, AreLeaves, IsNoLeaf, IsHighAt}
use Rattle.image_finding.proofs.Scans.{scan_fails, scan_passes}
use Rattle.image_finding.proofs.Mapping.{map_fails}
use Rattle.image_finding.proofs.Paging.{page_fails}

-- a call that tells no rule
pub none_told : (fault : FindFault) (P : BadImage → Type 0) → told_by fault (λ bad. ⊥) → told_by fault P
none_told (faults.BadImage bad) P h = absurd h
none_told faults.DiskFault P h = tt
none_told faults.NoMemory P h = tt

-- what holds anyway
pub if_ok : {T E : Type 0} (r : Result T E) (P : Type 0) → P → OnOk r P
if_ok (Ok x) P h = h
if_ok (Err e) P h = tt

-- ---- a scan of the area in use

module _ (c : List ℕ) (h : Header) (stands : StandsUpTo 5 c h) (area : List ℕ) (is : area ≡ area_in h c) where
  pub after_stands : (r : Result (List Scanned) FindFault) → IfOk r (λ read. scanned area ≡ Ok read) → OnOk r (StandsUpTo 7 c h)
  after_stands (Ok read) e = scan_passes c h stands read (ap scanned (sym is) ∙ e)
  after_stands (Err f) e = tt

  pub after_refused : (place : ℕ) → place ≡ area_at h.area_bytes h.area → (r : Result (List Scanned) FindFault)
      → IfBad r (λ bad. scan_fault place (scanned area) ≡ Some (bad.rule, bad.place)) → IfBad r (λ bad. IsRefused c bad)
  after_refused place at (Ok read) e = tt
  after_refused place at (Err (faults.BadImage bad)) e = scan_fails c h stands bad (ap (λ p. scan_fault p (scanned (area_in h c))) (sym at) ∙ ap (λ (bs : List ℕ). scan_fault place (scanned bs)) (sym is) ∙ e)
  after_refused place at (Err faults.DiskFault) e = tt
  after_refused place at (Err faults.NoMemory) e = tt

-- ---- the page map

pub map_refused : (c : List ℕ) (h : Header) → StandsUpTo 7 c h → (map : List ℕ) → map ≡ map_in h c → (bad : BadImage) → IsHighAt (h.place + 64) map bad → IsRefused c bad
map_refused c h stands map is bad high = map_fails c h stands map is bad high.page high.inside high.high high.first high.rule high.place

-- ---- a page that is read, or none

-- the slot that a byte of the page map names
pub slot_read : (room n byte : ℕ) (c page : List ℕ) → 0 < byte → page ≡ part (slot_at room n (byte - 1)) 8192 c → Some page ≡ named room n byte c
slot_read room n zero c page some e = absurd (omega (arith, some))
slot_read room n (suc j) c page some e = let back : suc j - 1 ≡ j = omega arith in ap (λ (x : List ℕ). Some x) (e ∙ ap (λ i. part (slot_at room n i) 8192 c) back)

-- none
pub unstored : (b : Bool) (page : List ℕ) (o : Option (List ℕ)) → (if b then Some page else None) ≡ o → b ≡ false → IsLeafIf o
unstored b page o e is = subst IsLeafIf (ap (λ x. if x then Some page else None) (sym is) ∙ e) tt

-- a leaf
pub stored_leaf : (b : Bool) (page : List ℕ) (o : Option (List ℕ)) → (if b then Some page else None) ≡ o → b ≡ true → IsLeaf page → IsLeafIf o
stored_leaf b page o e is leaf = subst IsLeafIf (ap (λ x. if x then Some page else None) (sym is) ∙ e) leaf

-- no leaf
pub stored_no_leaf : (room n byte : ℕ) (c : List ℕ) (bad : BadImage) (b : Bool) (page : List ℕ) → (if b then Some page else None) ≡ named room n byte c → b ≡ true → (IsLeaf page → ⊥)
    → bad.rule ≡ 9 → bad.place ≡ slot_at room n (byte - 1) → IsNoLeaf room n byte c bad
stored_no_leaf room n zero c bad b page e is none rule place = absurd (let no : Some page ≡ None = ap (λ x. if x then Some page else None) (sym is) ∙ e in cc)
stored_no_leaf room n (suc j) c bad b page e is none rule place =
    let same : Some page ≡ Some (part (slot_at room n j) 8192 c) = ap (λ x. if x then Some page else None) (sym is) ∙ e in
    let bytes : page ≡ part (slot_at room n j) 8192 c = cc in
    let back : suc j - 1 ≡ j = omega arith in
    record {
      slot = j;
      stored = refl;
      leaf = λ leaf. none (subst IsLeaf (sym bytes) leaf);
      rule = rule;
      place = place ∙ ap (slot_at room n) back;
    }

-- a page that an image names
pub leaf_if : (r : Result Bool Failed) (page : List ℕ) (o : Option (List ℕ)) → IfOk r (λ b. (if b then Some page else None) ≡ o) → IsLeafIf o → IfOk r (λ b. OnTrue b (IsLeaf page))
leaf_if (Ok true) page o e leaf = subst IsLeafIf (sym e) leaf
leaf_if (Ok false) page o e leaf = tt
leaf_if (Err f) page o e leaf = tt

-- the first page that is no leaf
pub no_leaf_refused : (c : List ℕ) (h : Header) → StandsUpTo 8 c h → (map : List ℕ) → map ≡ map_in h c → (n : ℕ) → n < h.pages → AreLeaves h.area_bytes n map c → (fault : FindFault)
    → told_by fault (λ bad. IsNoLeaf h.area_bytes n (get_or map n 0) c bad) → told_by fault (λ bad. IsRefused c bad)
no_leaf_refused c h stands map is n inside leaves (faults.BadImage bad) none = page_fails c h stands map is bad n inside none leaves
no_leaf_refused c h stands map is n inside leaves faults.DiskFault none = tt
no_leaf_refused c h stands map is n inside leaves faults.NoMemory none = tt

-- ---- a map that is tested

pub tested_low : (r : Result (List ℕ) FindFault) (map : List ℕ) → IfOk r (λ tested. tested ≡ map) → OnOk r (IsLow map) → IfOk r (λ tested. IsLow tested)
tested_low (Ok tested) map is low = subst IsLow (sym is) low
tested_low (Err f) map is low = tt
