-- No clause of `run` rests on this module: it serves contracts between crates.
--
-- What the bytes of a disk mean: its live header, that header's log area and the stored pages that it names.
use Rattle.std.specs.Prelude.{◌==◌, ◌&&◌, ◌||◌, not, nat_le, Bool, if◌then◌else◌, ℕ, zero, suc, ◌+◌, ◌*◌, List, [], ◌∷◌, drop, get_or, Option, Some, None}
use Rattle.std.specs.Prelude.{map as map_of}
use Rattle.std.specs.List.{range_with_len}
use Rattle.std.specs.Str.{bytes_eq}
use Rattle.byteorder.specs.Endian.{big_number}
use Rattle.disk_io.specs.Disk.{part}

-- where header 0 or 1 begins
abbrev pub header_at : ℕ → ℕ
header_at k = k * 139264

-- where log area 0 or 1 begins, with this many bytes in an area
abbrev pub area_at : ℕ → ℕ → ℕ
area_at room zero = 278528
area_at room (suc a) = 278528 + room

-- where slot 0 or 1 of a page begins
abbrev pub slot_at : ℕ → ℕ → ℕ → ℕ
slot_at room p j = 278528 + 2 * room + (2 * p + j) * 8192

-- n bytes from a place on as a number, the highest byte first
abbrev pub number_at : ℕ → ℕ → List ℕ → ℕ
number_at n at c = big_number n (drop at c)

-- IVIEWDB
abbrev pub magic : List ℕ
magic = 73 ∷ 86 ∷ 73 ∷ 69 ∷ 87 ∷ 68 ∷ 66 ∷ []

abbrev pub gate_open : ℕ → List ℕ → Bool
gate_open k c = get_or c (header_at k) 0 == 165

-- the gate is open, with IVIEWDB behind it
abbrev pub is_open : ℕ → List ℕ → Bool
is_open k c = gate_open k c && bytes_eq (part (header_at k + 1) 7 c) magic

abbrev pub format_of : ℕ → List ℕ → ℕ
format_of k c = number_at 4 (header_at k + 8) c

abbrev pub pages_of : ℕ → List ℕ → ℕ
pages_of k c = number_at 4 (header_at k + 12) c

abbrev pub area_size_of : ℕ → List ℕ → ℕ
area_size_of k c = number_at 8 (header_at k + 16) c

abbrev pub number_of : ℕ → List ℕ → ℕ
number_of k c = number_at 8 (header_at k + 24) c

abbrev pub commits_of : ℕ → List ℕ → ℕ
commits_of k c = number_at 8 (header_at k + 32) c

abbrev pub next_entry_of : ℕ → List ℕ → ℕ
next_entry_of k c = number_at 8 (header_at k + 40) c

abbrev pub area_of : ℕ → List ℕ → ℕ
area_of k c = get_or c (header_at k + 48) 0

abbrev pub redo_of : ℕ → List ℕ → ℕ
redo_of k c = number_at 8 (header_at k + 56) c

-- the byte of a page in a header's page map
abbrev pub map_byte : ℕ → ℕ → List ℕ → ℕ
map_byte k p c = get_or c (header_at k + (64 + p)) 0

-- the open header with the greater number, and header 0 on a tie
abbrev pub choose : Bool → Bool → ℕ → ℕ → Option ℕ
choose first second m n = if first && (not second || nat_le n m) then Some 0 else if second then Some 1 else None

unfoldable pub live : List ℕ → Option ℕ
live c = choose (is_open 0 c) (is_open 1 c) (number_of 0 c) (number_of 1 c)

-- a page by its byte in a page map: not stored, or in slot 0 or 1
abbrev pub named : ℕ → ℕ → ℕ → List ℕ → Option (List ℕ)
named room p zero c = None
named room p (suc j) c = Some (part (slot_at room p j) 8192 c)

-- the fields of a header, its page map, the whole log area in use, and the stored pages by number
pub record Image : Type 0 where
  pub format : ℕ
  pub pages : ℕ
  pub area_size : ℕ
  pub number : ℕ
  pub commits : ℕ
  pub next_entry : ℕ
  pub area : ℕ
  pub redo : ℕ
  pub map : List ℕ
  pub log : List ℕ
  pub stored : List (Option (List ℕ))

unfoldable pub image_at : ℕ → ℕ → ℕ → List ℕ → Image
image_at room count k c = record {
  format = format_of k c;
  pages = pages_of k c;
  area_size = area_size_of k c;
  number = number_of k c;
  commits = commits_of k c;
  next_entry = next_entry_of k c;
  area = area_of k c;
  redo = redo_of k c;
  map = part (header_at k + 64) count c;
  log = part (area_at room (area_of k c)) room c;
  stored = map_of (λ p. named room p (map_byte k p c) c) (range_with_len 0 count);
}

abbrev pub image_by : ℕ → ℕ → Option ℕ → List ℕ → Option Image
image_by room count None c = None
image_by room count (Some k) c = Some (image_at room count k c)

-- what a disk with log areas of this size and this many pages means: nothing where no header is live
abbrev pub image : ℕ → ℕ → List ℕ → Option Image
image room count c = image_by room count (live c) c
