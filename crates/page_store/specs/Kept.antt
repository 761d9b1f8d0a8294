-- No clause of `run` rests on this module: it serves contracts between crates.
--
-- What stays on a disk while a new image is made ready beside the old one.
use Rattle.std.specs.Prelude.{true, false, ◌≡◌, ◌≢◌, ◌⊎◌, ◌==◌, Bool, if◌then◌else◌, ℕ, suc, ◌+◌, ◌-◌, ◌*◌, ◌<◌, ◌≤◌, List, length, get_or, Option, Some, None}
use Rattle.disk_io.specs.Disk.{part, LeavesOnly}
use Rattle.page_store.specs.declared.facts.HeaderFacts.{HeaderFacts}
use Rattle.page_store.specs.Image.{header_at, area_at, slot_at, area_of, map_byte, live, named}
use Rattle.page_store.specs.Publish.{header_bytes, page_if, old_byte, InRange}

-- the header that a publish leaves as it is: the live one, and header 0 where none is live
abbrev pub kept_side : Option ℕ → ℕ
kept_side None = 0
kept_side (Some k) = k

-- header k is live or, being header 0, beside none, and what it names is on the disk
pub record Names (room pages k : ℕ) (s : List ℕ) : Type 0 where
  pub fits : length s ≡ 278528 + 2 * room + 16384 * pages
  pub few : pages ≤ 131072
  pub side : (k ≡ 0) ⊎ (k ≡ 1)
  pub stands : (live s ≡ Some k) ⊎ ((live s ≡ None) × (k ≡ 0))
  pub area : live s ≡ Some k → area_of k s ≤ 1
  pub map : (p : ℕ) → p < pages → old_byte (live s) p s ≤ 2

-- the old image rests on this byte: header k, its log area and the slots that it names
pub data Held (room pages k : ℕ) (s : List ℕ) (i : ℕ) : Type 0 where
  InHeader : header_at k ≤ i → i < header_at k + 139264 → Held room pages k s i
  InArea : live s ≡ Some k → area_at room (area_of k s) ≤ i → i < area_at room (area_of k s) + room → Held room pages k s i
  InSlot : live s ≡ Some k → (p j : ℕ) → p < pages → map_byte k p s ≡ suc j → slot_at room p j ≤ i → i < slot_at room p j + 8192 → Held room pages k s i

-- a range of bytes on which the old image does not rest, without the other gate
pub record Free (room pages k : ℕ) (s : List ℕ) (at n : ℕ) : Type 0 where
  pub held : (i : ℕ) → at ≤ i → i < at + n → Held room pages k s i → ⊥
  pub gate : (at + n ≤ header_at (1 - k)) ⊎ (header_at (1 - k) < at)

-- the bytes outside a range are as they were
pub record Outside (at n : ℕ) (d c : List ℕ) : Type 0 where
  pub size : length c ≡ length d
  pub same : (i : ℕ) → (i < at) ⊎ (at + n ≤ i) → get_or c i 0 ≡ get_or d i 0

-- each byte on which the old image rests is as it was
pub record HeldStays (room pages k : ℕ) (s c : List ℕ) : Type 0 where
  pub size : length c ≡ length s
  pub same : (i : ℕ) → Held room pages k s i → get_or c i 0 ≡ get_or s i 0

-- the same, with the other gate closed
pub record IsOld (room pages k : ℕ) (s c : List ℕ) : Type 0 where
  pub kept : HeldStays room pages k s c
  pub shut : get_or c (header_at (1 - k)) 0 ≢ 165

-- while the gate of the other header is closed: as before, or anything in an open gate
abbrev pub Closing : ℕ → List ℕ → List ℕ → Type 0
Closing k s c = (c ≡ s) ⊎ ((get_or s (header_at (1 - k)) 0 ≡ 165) × Outside (header_at (1 - k)) 1 s c)

-- and then: it is closed, and all else is as before
pub record Closed (k : ℕ) (s c : List ℕ) : Type 0 where
  pub elsewhere : Outside (header_at (1 - k)) 1 s c
  pub shut : get_or c (header_at (1 - k)) 0 ≢ 165

-- each image that a crash may leave is an old one
abbrev pub Guards : {D : Type 0} → (D → List ℕ → Type 0) → ℕ → ℕ → ℕ → List ℕ → D → Type 0
Guards may_leave room pages k s disk = (c : List ℕ) → may_leave disk c → IsOld room pages k s c

-- after a run, and at each of its moments
pub record KeepsOld {D : Type 0} (moment : D → ℕ) (left_since : D → ℕ → List ℕ → Type 0) (may_leave : D → List ℕ → Type 0) (room pages k : ℕ) (s : List ℕ) (old new : D) : Type 0 where
  pub guards : Guards may_leave room pages k s new
  pub moments : LeavesOnly moment left_since old new (IsOld room pages k s)

-- header k of s stands, and the buffer has its page map, or one of zeros where no header is live
pub record Beside (room pages k : ℕ) (buffer s : List ℕ) : Type 0 where
  pub names : Names room pages k s
  pub map : (p : ℕ) → p < pages → get_or buffer (64 + p) 0 ≡ old_byte (live s) p s

-- this is the byte of a page in the map beside which a new image is made
pub record IsByte (room pages k : ℕ) (s : List ℕ) (place byte : ℕ) : Type 0 where
  pub names : Names room pages k s
  pub inside : place < pages
  pub is : byte ≡ old_byte (live s) place s

-- the slot that a byte of the map does not name
abbrev pub new_slot : ℕ → ℕ
new_slot m = if m == 1 then 1 else 0

-- each byte of a page map is 0, 1 or 2
abbrev pub LowMap : ℕ → List ℕ → Type 0
LowMap pages header = (p : ℕ) → p < pages → get_or header (64 + p) 0 ≤ 2

-- the map names a store's pages, as they stand on the disk
abbrev pub HasPages : ℕ → List Bool → List ℕ → List ℕ → List ℕ → Type 0
HasPages room stored bytes header s = (p : ℕ) → p < length stored → (get_or header (64 + p) 0 ≤ 2) × (named room p (get_or header (64 + p) 0) s ≡ page_if stored bytes p)

-- a page that the old map names as the store has it keeps its byte
abbrev pub KeepsMap : ℕ → List Bool → List ℕ → List ℕ → List ℕ → List ℕ → Type 0
KeepsMap room stored bytes old new s = (p : ℕ) → p < length stored → named room p (get_or old (64 + p) 0) s ≡ page_if stored bytes p → get_or new (64 + p) 0 ≡ get_or old (64 + p) 0

-- a page that stands in s as the store has it keeps its byte of the old map in that of header k of c
abbrev pub KeepsSlots : ℕ → ℕ → List Bool → List ℕ → List ℕ → List ℕ → List ℕ → Type 0
KeepsSlots room k stored bytes old s c = (p : ℕ) → p < length stored → named room p (get_or old (64 + p) 0) s ≡ page_if stored bytes p → map_byte k p c ≡ get_or old (64 + p) 0

-- each stored page that is not marked as changed stands, by this map, as the store has it
abbrev pub TracksMap : ℕ → List Bool → List Bool → List ℕ → List ℕ → List ℕ → Type 0
TracksMap room stored changed bytes header s =
    (p : ℕ) → p < length stored → get_or stored p false ≡ true → get_or changed p false ≡ false → named room p (get_or header (64 + p) 0) s ≡ page_if stored bytes p

-- the new image behind its closed gate
pub record Staged (room k : ℕ) (facts : HeaderFacts) (block : List ℕ) (stored : List Bool) (bytes s : List ℕ) : Type 0 where
  pub header : List ℕ
  pub fields : (i : ℕ) → 1 ≤ i → i < 64 → get_or s (header_at (1 - k) + i) 0 ≡ get_or (header_bytes facts (length stored) room (length block - 1) header) i 0
  pub in_range : InRange facts
  pub map : (p : ℕ) → p < length stored → map_byte (1 - k) p s ≤ 2
  pub pages : (p : ℕ) → p < length stored → named room p (map_byte (1 - k) p s) s ≡ page_if stored bytes p
  pub block_is : part (area_at room facts.area) (length block) s ≡ block
