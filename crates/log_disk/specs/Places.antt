-- No clause of `run` rests on this module: it serves contracts between crates.
--
-- Where on a device that stands what is found in its bytes: so each place at which a rule fails is that of the bytes that fail it.
use Rattle.std.specs.Prelude.{◌≡◌, ◌↔◌, ℕ, ◌+◌, ◌*◌, ◌<◌, true, List, ◌++◌, length, get_or, Some, Err}
use Rattle.std.specs.List.{Contains}
use Rattle.disk_io.specs.Disk.{part, AreBytes}
use Rattle.page_store.specs.Image.{area_at, number_at}
use Rattle.slot_page.specs.Page.{IsLeaf}
use Rattle.log_records.specs.declared.record.Record.{Record}
use Rattle.log_records.specs.Area.{Entry, group, block, blocks, BeginsWith}
use Rattle.log_records.specs.Scan.{Fault, scanned}
use Rattle.txn_log.specs.Damaged.{Header, Page, Device}
use Rattle.log_disk.specs.Bears.{page_entries, end_of_first}
use Rattle.log_disk.specs.Found.{live_on, IsFound}

-- a header's fields stand so many bytes behind its open gate, and its page map behind them
pub record HeaderStands (c : List ℕ) (h : Header) (bytes : List ℕ) : Type 0 where
  pub format : h.format ≡ number_at 4 (h.place + 8) c
  pub pages : h.pages ≡ number_at 4 (h.place + 12) c
  pub area_bytes : h.area_bytes ≡ number_at 8 (h.place + 16) c
  pub number : h.number ≡ number_at 8 (h.place + 24) c
  pub commits : h.commits ≡ number_at 8 (h.place + 32) c
  pub next : h.next ≡ number_at 8 (h.place + 40) c
  pub area : h.area ≡ get_or c (h.place + 48) 0
  pub redo : h.redo ≡ number_at 8 (h.place + 56) c
  pub map : bytes ≡ part (h.place + 64) h.pages c

-- a page's bytes begin at its place
pub record PageStands (c : List ℕ) (p : Page) : Type 0 where
  pub leaf : (p.formed ≡ true) ↔ IsLeaf (part p.place 8192 c)
  pub entries : p.entries ≡ page_entries (part p.place 8192 c)

-- where the area in use begins
abbrev pub area_place : Header → ℕ
area_place h = area_at h.area_bytes h.area

-- a fault of the area in use, at its place on the device
pub record IsFaultAt (c : List ℕ) (h : Header) (rule place : ℕ) : Type 0 where
  pub fault : Fault
  pub scan : scanned (part (area_place h) h.area_bytes c) ≡ Err fault
  pub rule_is : fault.rule ≡ rule
  pub place_is : area_place h + fault.place ≡ place

pub record Stands (c : List ℕ) (d : Device) (h : Header) : Type 0 where
  pub header : HeaderStands c h d.map
  pub stored : (p : Page) → Contains d.stored p → PageStands c p
  pub first_end : d.first_end ≡ end_of_first (part (area_place h) h.area_bytes c)
  pub scan : (rule place : ℕ) → (d.scan ≡ Some (rule, place)) ↔ IsFaultAt c h rule place

-- what is found stands where it is found, behind the live header
abbrev pub PlacesLaw : Type 0
PlacesLaw = (c : List ℕ) (d : Device) → IsFound c d → (h : Header) → d.header ≡ Some h → (k : ℕ) × (live_on c ≡ Some k) × (h.place ≡ 139264 * k) × Stands c d h

-- where a block does not lie in the area, its open gate stands
abbrev pub GateLaw : Type 0
GateLaw = (area : List ℕ) (place : ℕ) → scanned area ≡ Err (record { rule = 6; place = place }) → get_or area place 0 ≡ 165

-- Whole blocks, and then whole records of the block that fails, stand before this place; the bytes there, to that block's end, do not
-- begin with a record.
pub record BreaksAt (area : List ℕ) (place : ℕ) : Type 0 where
  pub before : List (List Entry)
  pub records : List Entry
  pub rest : List ℕ
  pub tail : List ℕ
  pub split : area ≡ blocks before ++ (block (group records ++ rest) ++ tail)
  pub place_is : place ≡ length (blocks before) + (5 + length (group records))
  pub some : 0 < length rest
  pub none : (number : ℕ) (e : Record) → BeginsWith number e rest → ⊥

-- where a block is not whole records, the first byte of what is none stands
abbrev pub BreakLaw : Type 0
BreakLaw = (area : List ℕ) (place : ℕ) → AreBytes area → scanned area ≡ Err (record { rule = 7; place = place }) → BreaksAt area place
