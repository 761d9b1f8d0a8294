-- Bytes written in the log areas leave what the header, its page map and the pages mean.
use Rattle.std.proofs.Common.{◌≡◌, Bool, true, false, not, ◌&&◌, ◌||◌, nat_le, if◌then◌else◌, ℕ, zero, suc, ◌+◌, ◌*◌, ◌<◌, ◌≤◌, List, length, get_or, drop, take, Option, Some, None, map, refl, sym, ◌∙◌, ap, arith, length-drop, length-append, ◌∷◌, ◌++◌}
use Rattle.std.proofs.lemmas.List.{get_or-drop}
use Rattle.std.specs.List.{range_with_len}
use Rattle.disk_io.specs.Disk.{part}
use Rattle.disk_io.specs.Bytes.{part_same, same_bytes}
use Rattle.page_store.specs.Image.{header_at, area_at, slot_at, number_at, is_open, number_of, choose, live, named, map_byte, area_of, Image, image_at, image_by, image}
use Rattle.page_store.proofs.Old.{number_same, map_range_same, open_same, live_is}
use Rattle.byteorder.specs.Endian.{big_bytes}
use Rattle.byteorder.specs.Numbers.{big_number-reads_back}
use Rattle.log_records.specs.Area.{Entry, group, block, blocks, Begins, FitsBlock}
use Rattle.wal_log.specs.Log.{IsOutside}
use Rattle.wal_log.proofs.KeptLaws.{block_is}
use Rattle.log_disk.specs.Bears.{end_of_first}
use Rattle.log_disk.specs.Laws.{AreasLaw}

some_number : {x y : ℕ} → Some x ≡ Some y → x ≡ y
some_number h = cc

pub some_image : {x y : Image} → Some x ≡ Some y → x ≡ y
some_image h = cc

picked : (a b : Bool) (k : ℕ) → (if a then Some 0 else if b then Some 1 else None) ≡ Some k → k ≤ 1
picked true b k h = omega (arith, some_number h)
picked false true k h = omega (arith, some_number h)
picked false false k h = absurd (let e : None ≡ Some k = h in cc)

-- a live header is header 0 or 1
pub live_low : (c : List ℕ) (k : ℕ) → live c ≡ Some k → k ≤ 1
live_low c k h = picked (is_open 0 c && (not (is_open 1 c) || nat_le (number_of 1 c) (number_of 0 c))) (is_open 1 c) k (sym (live_is c) ∙ h)

-- an image is that of the live header
pub image_live : (room count : ℕ) (c : List ℕ) (here : Image) → image room count c ≡ Some here → (k : ℕ) × (live c ≡ Some k) × (k ≤ 1) × (image_at room count k c ≡ here)
image_live room count c here means = by_live (live c) refl means
  where
    by_live : (o : Option ℕ) → live c ≡ o → image_by room count o c ≡ Some here → (k : ℕ) × (live c ≡ Some k) × (k ≤ 1) × (image_at room count k c ≡ here)
    by_live None is h = absurd (let e : None ≡ Some here = h in cc)
    by_live (Some k) is h = (k, is, live_low c k is, some_image h)

-- what stands from some place on
rest_same : (at : ℕ) (c s : List ℕ) → length c ≡ length s → ((i : ℕ) → at ≤ i → get_or c i 0 ≡ get_or s i 0) → drop at c ≡ drop at s
rest_same at c s size same = same_bytes (drop at c) (drop at s) (omega (arith, length-drop at c, length-drop at s)) (λ i lt. get_or-drop at c i 0 ∙ same (at + i) (omega arith) ∙ sym (get_or-drop at s i 0))

module _ (room count : ℕ) (s c : List ℕ) (size : length s ≡ 278528 + 2 * room + 16384 * count) (few : count ≤ 131072) (out : IsOutside 278528 (2 * room) s c) where
  module _ (k : ℕ) (low : k ≤ 1) where
    byte : (i : ℕ) → i < 139264 → get_or c (header_at k + i) 0 ≡ get_or s (header_at k + i) 0
    byte i lt = out.before (header_at k + i) (omega arith)

    field : (n at : ℕ) → at + n ≤ 139264 → number_at n (header_at k + at) c ≡ number_at n (header_at k + at) s
    field n at fits = number_same n (header_at k + at) (header_at k + at) c s (λ i lt. out.before (header_at k + at + i) (omega arith))

    opens : is_open k c ≡ is_open k s
    opens = open_same k c s out.size (omega (arith, size)) (λ i lo hi. out.before i (omega arith))

    pages : (p m : ℕ) → named room p m c ≡ named room p m s
    pages p zero = refl
    pages p (suc j) = ap (λ (l : List ℕ). Some (take 8192 l)) (rest_same (slot_at room p j) c s out.size (λ i le. out.after i (omega arith)))

    fields : image_at room count k c ≡ record (image_at room count k s) { log = part (area_at room (area_of k s)) room c }
    unfolding image_at
    fields = λ t. record {
      format = field 4 8 (omega arith) t;
      pages = field 4 12 (omega arith) t;
      area_size = field 8 16 (omega arith) t;
      number = field 8 24 (omega arith) t;
      commits = field 8 32 (omega arith) t;
      next_entry = field 8 40 (omega arith) t;
      area = byte 48 (omega arith) t;
      redo = field 8 56 (omega arith) t;
      map = byte_map t;
      log = part (area_at room (byte 48 (omega arith) t)) room c;
      stored = all t;
    }
      where
        byte_map : part (header_at k + 64) count c ≡ part (header_at k + 64) count s
        byte_map = part_same (header_at k + 64) count c s out.size (omega (arith, size)) (λ i lo hi. out.before i (omega arith))

        all : map (λ p. named room p (map_byte k p c) c) (range_with_len 0 count) ≡ map (λ p. named room p (map_byte k p s) s) (range_with_len 0 count)
        all = map_range_same _ _ count (λ p lt. ap (λ m. named room p m c) (byte (64 + p) (omega arith)) ∙ pages p (map_byte k p s))

    area_is : (here : Image) → image_at room count k s ≡ here → area_of k s ≡ here.area
    unfolding image_at
    area_is here is = ap (λ (x : Image). x.area) is

  same_live : live c ≡ live s
  same_live =
      live_is c
      ∙ (λ t. choose (opens 0 (omega arith) t) (opens 1 (omega arith) t) (field 0 (omega arith) 8 24 (omega arith) t) (field 1 (omega arith) 8 24 (omega arith) t))
      ∙ sym (live_is s)

  pub log_alone : (here : Image) → image room count s ≡ Some here → image room count c ≡ Some (record here { log = part (area_at room here.area) room c })
  log_alone here means =
      let l = image_live room count s here means in
      ap (λ o. image_by room count o c) (same_live ∙ l.1)
      ∙ ap Some (fields l.0 l.2 ∙ (λ t. record (l.3 t) { log = part (area_at room (area_is l.0 l.2 here l.3 t)) room c }))

pub areas : AreasLaw
areas room count s c here size few means out = log_alone room count s c size few out here means

-- ---- the first block

first_block_ends : (es : List Entry) (groups : List (List Entry)) (tail : List ℕ) → FitsBlock es → end_of_first (blocks (es ∷ groups) ++ tail) ≡ Some (5 + length (group es))
unfolding block
first_block_ends es groups tail fits = ap (λ n. Some (5 + n)) (big_number-reads_back 4 (length (group es)) (group es ++ blocks groups ++ tail) fits.short)

-- a gate, a length and the records
pub block_long : (w : List ℕ) → length (block w) ≡ 5 + length w
block_long w = omega (arith, ap length (block_is w), length-append (big_bytes 4 (length w)) w)

-- an area that begins with blocks has the first of them to its end
pub ends_first : (es : List Entry) (groups : List (List Entry)) (area : List ℕ) → Begins (es ∷ groups) area → FitsBlock es → end_of_first area ≡ Some (length (block (group es)))
ends_first es groups area begins fits = ap end_of_first begins.split ∙ first_block_ends es groups begins.tail fits ∙ ap Some (sym (block_long (group es)))
