use Rattle.std.proofs.Common.{ℕ, ◌≡◌, ◌+◌, ◌-◌, ◌*◌, ◌<◌, ◌≤◌, List, length, take, get_or, set, ap, ◌∙◌, arith, refl}
use Rattle.slot_page.specs.Bytes.{number_at, Wrote}
use Rattle.slot_page.specs.Page.{no_entry, heap, index_of, entries, IsPage, Holds}
use Rattle.slot_page.proofs.Pages.{held, entries_held, page_held, page_size, page_fits, place_shown, cell_parts, cell_shown, cell_inside, length-cell, replaced}
use Rattle.slot_page.proofs.set_value.Goals as goal

-- where entry i stands, and how long its key is
record Found (page : List ℕ) (i at k : ℕ) : Type 0 where
  place : at ≡ 16 + length (heap (take i (entries page)))
  key : k ≡ length (get_or (entries page) i no_entry).0
  inside : at + 4 + length (get_or (entries page) i no_entry).0 + length (get_or (entries page) i no_entry).1 + 2 * length (entries page) ≤ 8192

found : (page : List ℕ) (i at k : ℕ) → IsPage page → i < length (entries page) → at ≡ number_at page (8192 - 2 - 2 * i) → k ≡ number_at page at → Found page i at k
found page i at k h lt at_is k_is =
    let hs = held page h in
    let e = get_or (entries page) i no_entry in
    let same : 8192 - 2 - 2 * i ≡ 8190 - 2 * i = omega arith in
    let place : at ≡ 16 + length (heap (take i (entries page))) = at_is ∙ ap (number_at page) same ∙ place_shown page _ _ i hs lt in
    let parts = cell_parts page _ e (cell_shown page _ _ i hs lt) in
    let in_page = cell_inside page _ _ i hs lt in
    record {
      place = place;
      key = k_is ∙ ap (number_at page) place ∙ parts.0;
      inside = omega (arith, length-cell e);
    }

pub overflow_mul-i : goal.overflow_mul-i
overflow_mul-i c = let f = page_fits _ c.requires.page in omega (arith, c.requires.inside)

pub overflow_sub-i : goal.overflow_sub-i
overflow_sub-i c = let f = page_fits _ c.requires.page in omega (arith, c.requires.inside)

pub number_at-at-requires : goal.number_at-at-requires
number_at-at-requires c = let s = page_size _ c.requires.page in omega arith

pub number_at-key_len-requires : goal.number_at-key_len-requires
number_at-key_len-requires c =
    let s = page_size _ c.requires.page in
    let f = found c.args.page.now c.args.i c.number_at-at.result _ c.requires.page c.requires.inside c.number_at-at.ensures refl in
    omega (arith, f.inside)

pub put_bytes-requires : goal.put_bytes-requires
put_bytes-requires c =
    let s = page_size _ c.requires.page in
    let f = found c.args.page.now c.args.i c.number_at-at.result c.number_at-key_len.result c.requires.page c.requires.inside c.number_at-at.ensures c.number_at-key_len.ensures in
    omega (arith, f.inside, f.key, c.requires.size)

done : (p0 p1 value : List ℕ) (i at k : ℕ) → IsPage p0 → i < length (entries p0) → length value ≡ length (get_or (entries p0) i no_entry).1 → Found p0 i at k → Wrote (at + 4 + k) value p0 p1
    → Holds p1 (index_of p0) (set (entries p0) i ((get_or (entries p0) i no_entry).0, value))
done p0 p1 value i at k h lt same f w =
    replaced p0 p1 (index_of p0) (entries p0) i (at + 4 + k) value (held p0 h) lt same (omega (arith, f.place, f.key)) w

pub returns : goal.returns
returns c =
    let f = found c.args.page.now c.args.i c.number_at-at.result c.number_at-key_len.result c.requires.page c.requires.inside c.number_at-at.ensures c.number_at-key_len.ensures in
    let h = done c.args.page.now c.put_bytes.new.page c.args.value.now c.args.i c.number_at-at.result c.number_at-key_len.result c.requires.page c.requires.inside c.requires.size f c.put_bytes.ensures in
    record { page = page_held _ _ _ h; entries = entries_held _ _ _ h; index = h.of_index }
