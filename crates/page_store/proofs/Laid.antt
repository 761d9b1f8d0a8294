-- What stands on the disk once all but the gate is written.
use Rattle.std.proofs.Common.{◌≡◌, inr, ⊎_elim, Bool, ℕ, zero, suc, ◌+◌, ◌-◌, ◌*◌, ◌<◌, ◌≤◌, List, length, get_or, drop, Some, refl, sym, ◌∙◌, ap, subst, arith, length-drop}
use Rattle.std.proofs.lemmas.List.{get_or-drop}
use Rattle.disk_io.specs.Disk.{splice}
use Rattle.disk_io.specs.Bytes.{length-splice, part-splice, part-splice_out, byte-splice_in}
use Rattle.page_store.specs.declared.facts.HeaderFacts.{HeaderFacts}
use Rattle.page_store.specs.Image.{header_at, area_at, slot_at, map_byte, named}
use Rattle.page_store.specs.Publish.{header_bytes, InRange}
use Rattle.page_store.specs.Kept.{IsOld, Free, Staged, HasPages}
use Rattle.page_store.proofs.Old.{area_bound, outside_splice, old_outside}

pub area_end : (room a : ℕ) → a ≤ 1 → area_at room a ≤ 278528 + room
area_end room a low = ⊎_elim (λ e. omega (arith, e)) (λ e. omega (arith, e)) (area_bound room a low)

area_begin : (room a : ℕ) → a ≤ 1 → 278528 ≤ area_at room a
area_begin room a low = ⊎_elim (λ e. omega (arith, e)) (λ e. omega (arith, e)) (area_bound room a low)

pub old_splice : (room pages k at : ℕ) (s d d' w : List ℕ) → IsOld room pages k s d → at + length w ≤ length d → Free room pages k s at (length w) → d' ≡ splice at w d → IsOld room pages k s d'
old_splice room pages k at s d d' w old fits free is = subst (IsOld room pages k s) (sym is) (old_outside room pages k s d (splice at w d) at (length w) old (outside_splice at w d fits) free)

module _ (room k : ℕ) (facts : HeaderFacts) (block map header d : List ℕ) (stored : List Bool) (bytes : List ℕ)
    (side : k ≤ 1) (size : length d ≡ 278528 + 2 * room + 16384 * length stored) (few : length stored ≤ 131072) (low : facts.area ≤ 1) (small : length block ≤ room) (long : length header ≡ 139264) where
  abbrev body_at : ℕ
  body_at = (1 - k) * 139264 + 1

  abbrev body : List ℕ
  body = drop 1 header

  body_long : length body ≡ 139263
  body_long = omega (arith, length-drop 1 header, long)

  abbrev middle : List ℕ
  middle = splice (area_at room facts.area) block d

  block_fits : area_at room facts.area + length block ≤ length d
  block_fits = omega (arith, area_end room facts.area low, small, size)

  middle_size : length middle ≡ length d
  middle_size = length-splice (area_at room facts.area) block d block_fits

  body_fits : body_at + length body ≤ length middle
  body_fits = omega (arith, middle_size, size, body_long)

  abbrev pub last : List ℕ
  last = splice body_at body middle

  pub byte : (i : ℕ) → 1 ≤ i → i < 139264 → get_or last (header_at (1 - k) + i) 0 ≡ get_or header i 0
  byte i some inside =
      ap (λ j. get_or last j 0) (let e : header_at (1 - k) + i ≡ body_at + (i - 1) = omega arith in e)
      ∙ byte-splice_in body_at body middle (i - 1) (omega (arith, body_fits)) (omega (arith, body_long))
      ∙ get_or-drop 1 header (i - 1) 0
      ∙ ap (λ j. get_or header j 0) (let e : 1 + (i - 1) ≡ i = omega arith in e)

  pub map_is : (p : ℕ) → p < length stored → map_byte (1 - k) p last ≡ get_or header (64 + p) 0
  map_is p lt = byte (64 + p) (omega arith) (omega (arith, few))

  -- a slot is as it was before
  slot_is : (p m : ℕ) → p < length stored → m ≤ 2 → named room p m last ≡ named room p m d
  slot_is p zero lt le = refl
  slot_is p (suc j) lt le = ap Some (
      part-splice_out body_at body middle (slot_at room p j) 8192 (omega (arith, body_fits)) (omega (arith, middle_size, size)) (inr (omega (arith, body_long)))
      ∙ part-splice_out (area_at room facts.area) block d (slot_at room p j) 8192 block_fits (omega (arith, size)) (inr (omega (arith, area_end room facts.area low, small))))

  pub staged : header ≡ header_bytes facts (length stored) room (length block - 1) (drop 64 map) → InRange facts → ((p : ℕ) → get_or header (64 + p) 0 ≡ get_or map (64 + p) 0) → HasPages room stored bytes map d → Staged room k facts block stored bytes last
  staged is in_range same pages = record {
    header = drop 64 map;
    fields = λ i lo hi. byte i lo (omega arith) ∙ ap (λ l. get_or l i 0) is;
    in_range = in_range;
    map = λ p lt. subst (λ m. m ≤ 2) (sym (map_is p lt ∙ same p)) (pages p lt).0;
    pages = λ p lt. ap (λ m. named room p m last) (map_is p lt ∙ same p) ∙ slot_is p (get_or map (64 + p) 0) lt (pages p lt).0 ∙ (pages p lt).1;
    block_is =
        part-splice_out body_at body middle (area_at room facts.area) (length block) (omega (arith, body_fits)) (omega (arith, middle_size, block_fits)) (inr (omega (arith, body_long, area_begin room facts.area low)))
        ∙ part-splice (area_at room facts.area) block d block_fits;
  }

-- the map stays behind the fields
pub map_behind : (facts : HeaderFacts) (pages room redo : ℕ) (map header : List ℕ) → header ≡ header_bytes facts pages room redo (drop 64 map) → (p : ℕ) → get_or header (64 + p) 0 ≡ get_or map (64 + p) 0
map_behind facts pages room redo map header is p =
    sym (get_or-drop 64 header p 0) ∙ ap (λ (l : List ℕ). get_or (drop 64 l) p 0) is ∙ get_or-drop 64 map p 0
