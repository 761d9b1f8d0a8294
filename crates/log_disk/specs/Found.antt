-- No clause of `run` rests on this module: it serves contracts between crates.
--
-- An image as it is found in the bytes of a device, for the rules by which it is refused before its records are replayed.
use Rattle.std.specs.Prelude.{◌≡◌, ◌↔◌, ℕ, zero, suc, ◌+◌, ◌*◌, ◌<◌, ◌≤◌, ◌^◌, ◌&&◌, nat_le, Bool, true, List, [], ◌∷◌, length, get_or, Option, Some, None, Result, Ok, Err}
use Rattle.std.specs.Prelude.{map as map_of}
use Rattle.std.specs.List.{Contains, range_with_len}
use Rattle.std.specs.declared.cmp.Ordering.TheVariants.{Less}
use Rattle.disk_io.specs.Disk.{part}
use Rattle.page_store.specs.Image as page
use Rattle.page_store.specs.Image.{header_at, area_at, slot_at, format_of, pages_of, area_size_of, number_of, commits_of, next_entry_of, area_of, redo_of, map_byte, is_open, choose, live, image}
use Rattle.slot_page.specs.Page.{IsLeaf}
use Rattle.log_records.specs.declared.record.Scanned.{Scanned}
use Rattle.log_records.specs.Scan.{Fault, scanned}
use Rattle.table_laws.specs.Place.{place_cmp}
use Rattle.txn_log.specs.Replay.{Pages}
use Rattle.txn_log.specs.Appended.{Image}
use Rattle.txn_log.specs.Stored.{PageEntry}
use Rattle.txn_log.specs.Damaged.{Header, Page, Found, Device, Rule, all_found, IsDamaged}
use Rattle.log_disk.specs.Bears.{page_entries, all_entries, AreLeaves, StandOnce, AreStoredAs, end_of_first, Bears}

-- a header that lies wholly on the device, and is open there
abbrev pub opens_on : ℕ → List ℕ → Bool
opens_on k c = nat_le (header_at (suc k)) (length c) && is_open k c

-- the live header of a device of any size
abbrev pub live_on : List ℕ → Option ℕ
live_on c = choose (opens_on 0 c) (opens_on 1 c) (number_of 0 c) (number_of 1 c)

-- the header that begins there
abbrev pub header_of : ℕ → List ℕ → Header
header_of k c = record {
  place = header_at k;
  format = format_of k c;
  pages = pages_of k c;
  area_bytes = area_size_of k c;
  number = number_of k c;
  commits = commits_of k c;
  next = next_entry_of k c;
  area = area_of k c;
  redo = redo_of k c;
}

-- the rule and the place at which a scan fails, where the area begins at this place
abbrev pub scan_fault : ℕ → Result (List Scanned) Fault → Option (ℕ × ℕ)
scan_fault at (Ok records) = None
scan_fault at (Err e) = Some (e.rule, at + e.place)

-- a page with these bytes, at this place
pub record IsPageOf (place : ℕ) (bytes : List ℕ) (p : Page) : Type 0 where
  pub at : p.place ≡ place
  pub leaf : (p.formed ≡ true) ↔ IsLeaf bytes
  pub entries : p.entries ≡ page_entries bytes

-- a page by its byte in a page map, if it is stored, before others
abbrev pub StandsFirst : ℕ → ℕ → ℕ → List ℕ → (List Page → Type 0) → List Page → Type 0
StandsFirst room p zero c Others found = Others found
StandsFirst room p (suc j) c Others [] = ⊥
StandsFirst room p (suc j) c Others (f ∷ found) = IsPageOf (slot_at room p j) (part (slot_at room p j) 8192 c) f × Others found

-- the stored pages of these numbers, in order
abbrev pub ArePagesOf : ℕ → ℕ → List ℕ → List ℕ → List Page → Type 0
ArePagesOf room k c [] found = found ≡ []
ArePagesOf room k c (p ∷ ps) found = StandsFirst room p (map_byte k p c) c (ArePagesOf room k c ps) found

-- in the order of their keys, each key once
abbrev pub AreByKey : List PageEntry → Type 0
AreByKey [] = Unit {0}
AreByKey (e ∷ es) = ((f : PageEntry) → Contains es f → place_cmp e.0 f.0 ≡ Less) × AreByKey es

-- the entries of index 0 among these, in the order of their keys
pub record AreDefinitions (all ds : List Found) : Type 0 where
  pub among : (f : Found) → Contains ds f ↔ (Contains all f × (f.entry.0.0 ≡ 0))
  pub in_order : AreByKey (map_of (λ f. f.entry) ds)

-- by the live header k
pub record IsFoundBy (k : ℕ) (c : List ℕ) (d : Device) : Type 0 where
  pub header : d.header ≡ Some (header_of k c)
  pub first_end : d.first_end ≡ end_of_first (part (area_at (area_size_of k c) (area_of k c)) (area_size_of k c) c)
  pub scan : d.scan ≡ scan_fault (area_at (area_size_of k c) (area_of k c)) (scanned (part (area_at (area_size_of k c) (area_of k c)) (area_size_of k c) c))
  pub map : d.map ≡ part (header_at k + 64) (pages_of k c) c
  pub stored : ArePagesOf (area_size_of k c) k c (range_with_len 0 (pages_of k c)) d.stored
  -- where no key stands twice
  pub definitions : StandOnce (map_of (λ f. f.entry) (all_found d.stored)) → AreDefinitions (all_found d.stored) d.definitions

abbrev pub IsFoundIn : Option ℕ → List ℕ → Device → Type 0
IsFoundIn None c d = d.header ≡ None
IsFoundIn (Some k) c d = IsFoundBy k c d

pub record IsFound (c : List ℕ) (d : Device) : Type 0 where
  pub bytes : d.bytes ≡ length c
  pub by : IsFoundIn (live_on c) c d

-- the sizes of a device within the limits, and numbers that are at most 2^62
pub record AreLimited (room count : ℕ) (c : List ℕ) (here : page.Image) : Type 0 where
  pub pages : (512 ≤ count) × (count ≤ 131072)
  pub areas : (64 * 1024 ≤ room) × (room ≤ 256 * 1024 * 1024)
  pub size : length c ≡ 278528 + 2 * room + 16384 * count
  pub numbers : (here.number ≤ 2 ^ 62) × (here.commits ≤ 2 ^ 62) × (here.next_entry ≤ 2 ^ 62)

-- ---- laws

-- the live header is open and lies wholly on the device, and it has the greater number, header 0 on a tie
pub record IsLive (c : List ℕ) (k : ℕ) : Type 0 where
  pub low : k ≤ 1
  pub lies : header_at k + 139264 ≤ length c
  pub open_there : is_open k c ≡ true
  pub greatest : (other : ℕ) → other ≤ 1 → header_at other + 139264 ≤ length c → is_open other c ≡ true → number_of other c ≤ number_of k c
  pub first : (other : ℕ) → other < k → header_at other + 139264 ≤ length c → is_open other c ≡ true → number_of other c < number_of k c

-- no other is found; on a device that both headers lie on it is the one by whose pages the device is written
abbrev pub LiveLaw : Type 0
LiveLaw = ((c : List ℕ) (k : ℕ) → (live_on c ≡ Some k) ↔ IsLive c k) × ((c : List ℕ) → 278528 ≤ length c → live_on c ≡ live c)

-- for each device there is what is found
abbrev pub FoundLaw : Type 0
FoundLaw = (c : List ℕ) → (d : Device) × IsFound c d

-- bytes that bear an image are refused by no rule on header, blocks, page map and entries
abbrev pub NotDamagedLaw : Type 0
NotDamagedLaw = (room count : ℕ) (c : List ℕ) (i : Image) (b : Bears room count c i) → AreLimited room count c b.here
    → (d : Device) → IsFound c d → (rule : Rule) (place : ℕ) → IsDamaged d rule place → ⊥

-- the live header, its blocks, its page map and its stored pages are whole
pub record IsWhole (room count : ℕ) (c : List ℕ) (here : page.Image) : Type 0 where
  pub means : image room count c ≡ Some here
  pub limited : AreLimited room count c here
  pub format : here.format ≡ 1
  pub pages : here.pages ≡ count
  pub areas : here.area_size ≡ room
  pub area : here.area ≤ 1
  pub low : (n : ℕ) → n < count → get_or here.map n 0 ≤ 2
  pub first_end : end_of_first here.log ≡ Some here.redo
  pub records : List Scanned
  pub scan : scanned here.log ≡ Ok records
  pub leaves : AreLeaves here.stored
  pub apart : StandOnce (all_entries here.stored)

-- And so they are where no rule fails: where one of them is not, a rule does. The stored pages then hold a database and its view rows:
-- that they hold none can't be.
abbrev pub WholeLaw : Type 0
WholeLaw = (c : List ℕ) (d : Device) → IsFound c d → ((rule : Rule) (place : ℕ) → IsDamaged d rule place → ⊥)
    → (room : ℕ) × (count : ℕ) × (here : page.Image) × IsWhole room count c here × (((p : Pages) → AreStoredAs here.stored p → p.db.number ≡ here.commits → ⊥) → ⊥)
