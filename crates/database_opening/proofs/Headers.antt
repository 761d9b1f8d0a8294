-- The live header of an image that was read, as a journal has it.
use Rattle.std.proofs.Common.{◌≡◌, ℕ, ◌+◌, ◌≤◌, ◌<◌, List, length, get_or, Some, sym, ap, subst, ◌∙◌, arith}
use Rattle.disk_io.specs.Disk.{Only, part}
use Rattle.disk_io.specs.Bytes.{byte-part}
use Rattle.page_store.specs.Image as page
use Rattle.page_store.specs.Image.{live, header_at, image_at, area_of, map_byte}
use Rattle.page_store.specs.Publish.{next_number, Fits}
use Rattle.txn_log.specs.Damaged.{Header, Rule, rule_number, header_lives, format_known, sizes_fit, area_named, first_block_ends, blocks_lie, records_read, map_read, pages_formed, keys_apart, definitions_read, entries_read, FitsDevice}
use Rattle.log_disk.specs.Found.{IsWhole}
use Rattle.log_disk.proofs.Areas.{image_live}
use Rattle.log_disk.proofs.Finding.{all_are_found}
use Rattle.log_disk.proofs.Living.{live_same}
use Rattle.log_disk.proofs.Whole.{whole}
use Rattle.log_journal.specs.Standing.{HasHeader}
use Rattle.image_finding.specs.Headers.{map_in, StandsUpTo}

some_same : (m n : ℕ) → Some m ≡ Some n → m ≡ n
some_same m n e = cc

-- the rules have these numbers
twelve : (rule : Rule) → rule_number rule ≤ 12
twelve header_lives = omega arith
twelve format_known = omega arith
twelve sizes_fit = omega arith
twelve area_named = omega arith
twelve first_block_ends = omega arith
twelve blocks_lie = omega arith
twelve records_read = omega arith
twelve map_read = omega arith
twelve pages_formed = omega arith
twelve keys_apart = omega arith
twelve definitions_read = omega arith
twelve entries_read = omega arith

module _ (c : List ℕ) (h : Header) (stands : StandsUpTo 12 c h) (fits : FitsDevice h (length c)) (low : h.area ≤ 1) where
  abbrev side : ℕ
  side = stands.live.side

  -- it is live
  lives : live c ≡ Some side
  lives = sym (live_same c (let size = fits.size in omega (arith, size))) ∙ stands.live.lives

  area_is : h.area ≡ area_of side c
  area_is = ap (λ (x : Header). x.area) stands.live.fields

  -- its page map names slots
  low_map : (p : ℕ) → p < h.pages → map_byte side p c ≤ 2
  unfolding image_at
  low_map =
      let found = all_are_found c in
      let w = whole c found.0 found.1 (λ rule place damaged. stands.passes.none found.0 found.1 rule (twelve rule) place damaged.0) in
      by w.0 w.1 w.2 w.3
    where
      by : (room count : ℕ) (here : page.Image) → IsWhole room count c here → (p : ℕ) → p < h.pages → map_byte side p c ≤ 2
      by room count here is p inside =
          let l = image_live room count c here is.means in
          let same : l.0 ≡ side = some_same l.0 side (sym l.1 ∙ lives) in
          let there : image_at room count side c ≡ here = subst (λ k. image_at room count k c ≡ here) same l.3 in
          let pages : h.pages ≡ count = ap (λ (x : Header). x.pages) stands.live.fields ∙ (ap (λ (x : page.Image). x.pages) there ∙ is.pages) in
          let place = ap (λ (x : Header). x.place) stands.live.fields in
          let map_is : here.map ≡ map_in h c = sym (ap (λ (x : page.Image). x.map) there) ∙ (λ t. part (sym place t + 64) (sym pages t) c) in
          let least = is.low p (omega (arith, inside, pages)) in
          let byte : get_or here.map p 0 ≡ map_byte side p c = ap (λ (bs : List ℕ). get_or bs p 0) map_is ∙ byte-part (h.place + 64) h.pages c p inside
          ∙ ap (λ i. get_or c i 0) (let e : h.place + 64 + p ≡ header_at side + (64 + p) = omega (arith, place) in e) in
          subst (λ b. b ≤ 2) byte least

  fits_by : (k : ℕ) → live c ≡ Some k → Fits (length c) h.pages k c
  fits_by k is = subst (λ n. Fits (length c) h.pages n c) (some_same side k (sym lives ∙ is)) (record {
    count = sym (ap (λ (x : Header). x.pages) stands.live.fields);
    areas = let size = fits.size in let area = ap (λ (x : Header). x.area_bytes) stands.live.fields in omega (arith, size, area);
    low_area = let same = area_is in omega (arith, same, low);
    low_map = low_map;
  })

  pub live_header : (may_leave : List ℕ → Type 0) → Only c may_leave → HasHeader (length c) h.pages h.number h.area c may_leave
  live_header may_leave durable = record {
    numbered = ap (λ o. next_number o c) lives ∙ ap (λ n. n + 1) (sym (ap (λ (x : Header). x.number) stands.live.fields));
    names = λ k is same.
        let one : area_of k c ≡ h.area = ap (λ n. area_of n c) (some_same k side (sym is ∙ lives)) ∙ sym area_is in
        absurd (omega (arith, same, one, low));
    fits = fits_by;
    durable = durable;
  }
