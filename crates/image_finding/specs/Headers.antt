-- No clause of `run` rests on this module: it serves contracts between crates.
--
-- Headers as they are read.
use Rattle.std.specs.Prelude.{◌≡◌, ℕ, ◌+◌, true, false, List, Option, Some, None}
use Rattle.txn_log.specs.Damaged.{Header}
use Rattle.disk_io.specs.Disk.{part}
use Rattle.page_store.specs.Image.{area_at, format_of, pages_of, area_size_of, number_of, commits_of, next_entry_of, area_of, redo_of}
use Rattle.log_disk.specs.Found.{opens_on, live_on, header_of}
use Rattle.image_finding.specs.declared.header.LiveHeader.{LiveHeader}
use Rattle.image_finding.specs.Rules.{PassesUpTo}

-- the fields of a header
abbrev pub as_header : LiveHeader → Header
as_header h = record { place = h.place; format = h.format; pages = h.pages; area_bytes = h.area_bytes; number = h.number; commits = h.commits; next = h.next; area = h.area; redo = h.redo }

-- the fields in the first bytes of a header that begins at this place
abbrev pub fields_at : ℕ → List ℕ → Header
fields_at place start = record { place = place; format = format_of 0 start; pages = pages_of 0 start; area_bytes = area_size_of 0 start; number = number_of 0 start; commits = commits_of 0 start; next = next_entry_of 0 start; area = area_of 0 start; redo = redo_of 0 start }

-- header 0 or 1 of a device as it is read: none where it is not open there
abbrev pub IsReadAs : ℕ → List ℕ → Option LiveHeader → Type 0
IsReadAs side c None = opens_on side c ≡ false
IsReadAs side c (Some h) = (opens_on side c ≡ true) × (as_header h ≡ header_of side c)

-- the live header has these fields
pub record IsLiveHeader (c : List ℕ) (h : Header) : Type 0 where
  pub side : ℕ
  pub lives : live_on c ≡ Some side
  pub fields : h ≡ header_of side c

-- the live header as it is read, if there is one
abbrev pub IsLiveIf : List ℕ → Option LiveHeader → Type 0
IsLiveIf c None = live_on c ≡ None
IsLiveIf c (Some h) = IsLiveHeader c (as_header h)

-- the live header has these fields, and no rule up to this number fails
pub record StandsUpTo (n : ℕ) (c : List ℕ) (h : Header) : Type 0 where
  pub live : IsLiveHeader c h
  pub passes : PassesUpTo n c

-- the bytes of the log area in use
abbrev pub area_in : Header → List ℕ → List ℕ
area_in h c = part (area_at h.area_bytes h.area) h.area_bytes c

-- the bytes of the page map
abbrev pub map_in : Header → List ℕ → List ℕ
map_in h c = part (h.place + 64) h.pages c
