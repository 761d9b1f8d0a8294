-- Rule 10: no two entries of one index have one key.
use Rattle.std.proofs.Common.{◌≡◌, ◌≢◌, Bool, true, false, if◌then◌else◌, ℕ, zero, suc, ◌-◌, ◌<◌, List, [], ◌++◌, get_or, Some, None, refl, sym, ◌∙◌, ap, subst, arith}
use Rattle.std.specs.Bool.{OnTrue}
use Rattle.std.specs.FinMap.{FinMap}
use Rattle.disk_io.specs.Disk.{part}
use Rattle.page_store.specs.Image.{slot_at, named}
use Rattle.slot_page.specs.Page.{IsLeaf}
use Rattle.table_laws.specs.Place.{place_cmp}
use Rattle.txn_log.specs.Damaged.{Found, FirstBad, found_in, all_found, keys_apart}
use Rattle.log_disk.specs.Bears.{page_entries}
use Rattle.image_finding.specs.declared.fault.BadImage.{BadImage}
use Rattle.image_finding.specs.declared.fault.FindFault.{FindFault}
use Rattle.image_finding.specs.declared.image.FoundImage.{FoundImage}
use Rattle.image_finding.specs.Faults.{told_by}
use Rattle.image_finding.specs.Rules.{IsRefused}
use Rattle.image_finding.specs.Headers.{as_header, StandsUpTo}
use Rattle.image_finding.specs.Images.{HasImage}
use Rattle.image_finding.proofs.Passing.{passes_next, refused_next}
use Rattle.image_entries.specs.declared.stored.StoredEntry.{StoredEntry}
use Rattle.image_entries.specs.Entries.{found_on, found_before, found_entries, IsTwice, NoneBad, Gathers, TellsTwice}
use Rattle.image_entries.proofs.Firsts.{none_first}
use Rattle.image_entries.proofs.Pages.{pages_split, all_are}
use Rattle.image_entries.proofs.Taking.{told_so}

-- ---- a page that a byte of the page map names

pub on_page : (b : Bool) (room n byte place : ℕ) (c page : List ℕ) → byte ≢ 0 → place ≡ slot_at room n (byte - 1) → (if b then Some page else None) ≡ named room n byte c
    → found_in place (page_entries page) ≡ found_on room n byte c
on_page b room n zero place c page some at e = absurd (some refl)
on_page false room n (suc j) place c page some at e = absurd (cc)
on_page true room n (suc j) place c page some at e =
    let back : suc j - 1 ≡ j = omega arith in
    let there : place ≡ slot_at room n j = at ∙ ap (slot_at room n) back in
    let bytes : page ≡ part (slot_at room n j) 8192 c = cc in
    λ t. found_in (there t) (page_entries (bytes t))

pub leaf_on : (b : Bool) (room n byte : ℕ) (c page : List ℕ) → byte ≢ 0 → (if b then Some page else None) ≡ named room n byte c → OnTrue b (IsLeaf page) → IsLeaf page
leaf_on true room n byte c page some e leaf = leaf
leaf_on false room n zero c page some e leaf = absurd (some refl)
leaf_on false room n (suc j) c page some e leaf = absurd (cc)

-- no page
pub no_page : (room n byte : ℕ) (c : List ℕ) → byte ≡ 0 → found_on room n byte c ≡ []
no_page room n byte c e = ap (λ b. found_on room n b c) e

-- ---- all pages

-- where a page has the place of an earlier entry, so have all
pub page_tells : (image : FoundImage) (c : List ℕ) (n : ℕ) → n < image.header.pages → (fault : FindFault)
    → ((rest : List Found) → told_by fault (λ bad. TellsTwice (found_before image.header.area_bytes image.map n c ++ (found_on image.header.area_bytes n (get_or image.map n 0) c ++ rest)) bad))
    → told_by fault (λ bad. TellsTwice (found_entries image c) bad)
page_tells image c n inside fault tells =
    let split = pages_split image.header.area_bytes image.map c n image.header.pages inside in
    told_so fault (λ bad. TellsTwice (found_before image.header.area_bytes image.map n c ++ (found_on image.header.area_bytes n (get_or image.map n 0) c ++ split.0)) bad) (λ bad. TellsTwice (found_entries image c) bad)
    (λ bad h. subst (λ (fs : List Found). TellsTwice fs bad) (sym split.1) h) (tells split.0)

-- ---- the rule

module _ (c : List ℕ) (image : FoundImage) (has : HasImage c image) where
  pub keys_fail : (bad : BadImage) → TellsTwice (found_entries image c) bad → IsRefused c bad
  keys_fail bad tells = refused_next 9 c bad keys_apart refl tells.rule has.header.passes (λ d found.
      (tells.twice, tells.place, subst (λ (fs : List Found). FirstBad IsTwice [] fs tells.twice) (sym (all_are c image has d found)) tells.first))

  pub keys_stand : (m : FinMap place_cmp StoredEntry) → Gathers m (found_entries image c) → StandsUpTo 10 c (as_header image.header)
  keys_stand m gathers = record {
    live = has.header.live;
    passes = passes_next 9 c keys_apart refl has.header.passes (λ d found place fails.
        none_first IsTwice [] (all_found d.stored) fails.0 (subst (λ (fs : List Found). NoneBad IsTwice [] fs) (sym (all_are c image has d found)) gathers.apart) fails.2);
  }
