-- No clause of `run` rests on this module: it serves contracts between crates.
--
-- What a publish asks of the disk and makes of it.
use Rattle.std.specs.Prelude.{false, true, ◌≡◌, ◌≢◌, ◌⊎◌, Bool, if◌then◌else◌, ℕ, ◌+◌, ◌-◌, ◌*◌, ◌/◌, ◌^◌, ◌<◌, ◌≤◌, List, [], ◌∷◌, ◌++◌, length, take, get_or, Option, Some, None}
use Rattle.std.specs.Prelude.{map as map_of}
use Rattle.std.specs.List.{range_with_len}
use Rattle.byteorder.specs.Endian.{big_bytes}
use Rattle.disk_io.specs.Disk.{part}
use Rattle.page_store.specs.declared.facts.HeaderFacts.{HeaderFacts}
use Rattle.page_store.specs.Image.{magic, number_at, pages_of, area_size_of, number_of, area_of, map_byte, live, named, Image, image}

-- the bytes of one log area, on a disk of this size with this many pages and two areas
abbrev pub area_room : ℕ → ℕ → ℕ
area_room size pages = (size - 278528 - 16384 * pages) / 2

-- the number of the next header
abbrev pub next_number : Option ℕ → List ℕ → ℕ
next_number None c = 1
next_number (Some k) c = number_of k c + 1

-- a live header has another area than this one
abbrev pub OtherArea : ℕ → List ℕ → Type 0
OtherArea area c = (k : ℕ) → live c ≡ Some k → area ≢ area_of k c

-- one open block with a closed gate after it
pub record IsFirstBlock (block : List ℕ) : Type 0 where
  pub some : 6 ≤ length block
  pub opens : get_or block 0 0 ≡ 165
  pub long : number_at 4 1 block + 6 ≡ length block
  pub shut : get_or block (length block - 1) 0 ≢ 165

-- the size fields, the area and the page map of header k fit a disk of this size with this many pages
pub record Fits (size pages k : ℕ) (c : List ℕ) : Type 0 where
  pub count : pages_of k c ≡ pages
  pub areas : 278528 + 2 * area_size_of k c + 16384 * pages ≡ size
  pub low_area : area_of k c ≤ 1
  pub low_map : (p : ℕ) → p < pages → map_byte k p c ≤ 2

-- a live header fits
abbrev pub LiveFits : ℕ → ℕ → List ℕ → Type 0
LiveFits size pages c = (k : ℕ) → live c ≡ Some k → Fits size pages k c

-- the fields of a header from byte 8 on, before these bytes
abbrev pub field_bytes : HeaderFacts → ℕ → ℕ → ℕ → List ℕ → List ℕ
field_bytes facts pages room redo rest =
    big_bytes 4 facts.format ++ (big_bytes 4 pages ++ (big_bytes 8 room ++ (big_bytes 8 facts.number ++ (big_bytes 8 facts.commits ++ (big_bytes 8 facts.next_entry
    ++ ((facts.area ∷ 0 ∷ 0 ∷ 0 ∷ 0 ∷ 0 ∷ 0 ∷ 0 ∷ []) ++ (big_bytes 8 redo ++ rest)))))))

-- a header whose gate is closed, with these bytes for its page map
abbrev pub header_bytes : HeaderFacts → ℕ → ℕ → ℕ → List ℕ → List ℕ
header_bytes facts pages room redo rest = (0 ∷ magic) ++ field_bytes facts pages room redo rest

-- each fits its type
pub record InRange (facts : HeaderFacts) : Type 0 where
  pub format : facts.format < 256 ^ 4
  pub number : facts.number < 256 ^ 8
  pub commits : facts.commits < 256 ^ 8
  pub next_entry : facts.next_entry < 256 ^ 8

-- a page of a store, where it is stored
abbrev pub page_if : List Bool → List ℕ → ℕ → Option (List ℕ)
page_if stored bytes p = if get_or stored p false then Some (part (8192 * p) 8192 bytes) else None

abbrev pub stored_pages : List Bool → List ℕ → List (Option (List ℕ))
stored_pages stored bytes = map_of (page_if stored bytes) (range_with_len 0 (length stored))

-- the byte of a page in the live header's map, and 0 where no header is live
abbrev pub old_byte : Option ℕ → ℕ → List ℕ → ℕ
old_byte None p s = 0
old_byte (Some k) p s = map_byte k p s

-- each stored page that is not marked as changed stands, by the live header, as the store has it
abbrev pub Tracks : ℕ → List Bool → List Bool → List ℕ → List ℕ → Type 0
Tracks room stored changed bytes c =
    (p : ℕ) → p < length stored → get_or stored p false ≡ true → get_or changed p false ≡ false → named room p (old_byte (live c) p c) c ≡ page_if stored bytes p

-- an image of these facts and pages
abbrev pub new_image : ℕ → HeaderFacts → List ℕ → List Bool → List ℕ → List ℕ → List ℕ → Image
new_image room facts block stored bytes map log = record {
  format = facts.format;
  pages = length stored;
  area_size = room;
  number = facts.number;
  commits = facts.commits;
  next_entry = facts.next_entry;
  area = facts.area;
  redo = length block - 1;
  map = map;
  log = log;
  stored = stored_pages stored bytes;
}

-- the image is of these facts and pages, and its area begins with the block
pub record IsNew (room : ℕ) (facts : HeaderFacts) (block : List ℕ) (stored : List Bool) (bytes c : List ℕ) : Type 0 where
  pub log : List ℕ
  pub begins : take (length block) log ≡ block
  pub map : List ℕ
  pub low : (p : ℕ) → p < length stored → get_or map p 0 ≤ 2
  pub means : image room (length stored) c ≡ Some (new_image room facts block stored bytes map log)

-- a crash left the old image or the new one
abbrev pub OldOrNew : ℕ → HeaderFacts → List ℕ → List Bool → List ℕ → List ℕ → List ℕ → Type 0
OldOrNew room facts block stored bytes s c = (image room (length stored) c ≡ image room (length stored) s) ⊎ IsNew room facts block stored bytes c

-- a page that the live header names as the store has it keeps its byte in the new page map
abbrev pub KeepsUnchanged : ℕ → List Bool → List ℕ → List ℕ → List ℕ → Type 0
KeepsUnchanged room stored bytes s c =
    (k p : ℕ) → live s ≡ Some k → p < length stored → named room p (map_byte k p s) s ≡ page_if stored bytes p → map_byte (1 - k) p c ≡ map_byte k p s
