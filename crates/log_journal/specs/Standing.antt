-- No clause of `run` rests on this module: it serves contracts between crates.
--
-- How a journal on a disk stands between two calls: the parts of its disk, the header that is live there, and the records that it has.
use Rattle.std.specs.Prelude.{◌≡◌, ℕ, ◌+◌, ◌-◌, ◌*◌, ◌^◌, ◌≤◌, List, [], ◌∷◌, length, reverse, Option, Some}
use Rattle.std.specs.List.{AllByRecursion}
use Rattle.disk_io.specs.Disk.{Only}
use Rattle.page_store.specs.Image.{live}
use Rattle.page_store.specs.Publish.{next_number, OtherArea, LiveFits}
use Rattle.ordered_index.specs.Tree.{data_limit}
use Rattle.log_records.specs.Area.{Entry, group, IsSmall, FitsBlock}
use Rattle.wal_log.specs.Log.{LogState, area_at, used_by, Holds}
use Rattle.txn_log.specs.Groups.{after_of}
use Rattle.core_journal.specs.Records.{Records}
use Rattle.log_journal.specs.declared.journal.LogJournal.{LogJournal}
use Rattle.log_journal.specs.Saved.{HasSaved}

-- ---- the disk

-- a disk of this size has two headers, two log areas of so many bytes, and so many pages in two slots each
pub record HasParts (area_bytes pages size : ℕ) : Type 0 where
  pub whole : size ≡ 278528 + 2 * area_bytes + 16384 * pages
  pub least_pages : 512 ≤ pages
  pub most_pages : pages ≤ 131072
  pub least_area : 65536 ≤ area_bytes
  pub most_area : area_bytes ≤ 268435456

-- The header that is live among these bytes has this number, names this log area and fits the disk. A crash leaves these bytes.
pub record HasHeader (size pages number area : ℕ) (bytes : List ℕ) (may_leave : List ℕ → Type 0) : Type 0 where
  pub numbered : next_number (live bytes) bytes ≡ number + 1
  pub names : OtherArea (1 - area) bytes
  pub fits : LiveFits size pages bytes
  pub durable : Only bytes may_leave

-- The area in use has blocks that can be read. The first one has the carried records, and the others have these, the latest first.
pub record HasBlocks (log : LogState) (bytes : List ℕ) (carried records : List Entry) : Type 0 where
  pub first : List Entry
  pub first_is : first ≡ reverse carried
  pub others : List (List Entry)
  pub holds : Holds log.start log.gate log.size bytes (first ∷ others)
  pub fit : AllByRecursion FitsBlock (first ∷ others)
  pub are : after_of others ≡ records

-- ---- the journal

abbrev pub disk_of : {D : Type 0} → LogJournal D → D
disk_of journal = journal.disk

-- the bytes of a log area are the limit of its records
abbrev pub area_limit : {D : Type 0} → LogJournal D → Option ℕ
area_limit journal = Some journal.log.size

-- what the entries of its maps may count
abbrev pub maps_limit : {D : Type 0} → LogJournal D → Option ℕ
maps_limit journal = Some (data_limit journal.pages)

module _ {D : Type 0} (is_told : Type 0) (size_of : D → ℕ) (seen : D → List ℕ) (may_leave : D → List ℕ → Type 0) where
  -- its disk has the parts that it knows of, with its header live, and nothing of the log is reserved
  pub record IsKept (journal : LogJournal D) : Type 0 where
    pub parts : HasParts journal.log.size journal.pages (size_of journal.disk)
    pub low_area : journal.area ≤ 1
    pub header : is_told → HasHeader (size_of journal.disk) journal.pages journal.saved journal.area (seen journal.disk) (may_leave journal.disk)
    pub free : journal.log.reserved ≡ 0

  -- It has these records: those that wait are in memory, the others are in the area that the live header names, and what was saved last
  -- is in its pages. The header's number grows with the checkpoints.
  pub record Has (journal : LogJournal D) (records : Records) : Type 0 where
    pub kept : IsKept journal
    pub in_area : journal.log.start ≡ area_at journal.log.size journal.area
    pub waiting : journal.log.waiting ≡ group (reverse records.waiting)
    pub small : AllByRecursion IsSmall (reverse records.waiting)
    pub used : records.used ≡ used_by journal.log
    pub saves : journal.saved ≤ 2 ^ 62 + records.saves
    pub maps : records.image_limit ≡ maps_limit journal
    pub flushed : is_told → HasBlocks journal.log (seen journal.disk) records.saved.carried records.flushed
    pub image : is_told → HasSaved journal.log.size journal.pages (seen journal.disk) records.saved

  -- A checkpoint has begun behind these records, and this number comes next. The first block of the other area is to have these carried
  -- records, the latest first.
  pub record Carries (journal : LogJournal D) (records : Records) (next : ℕ) (carried : List Entry) (used : ℕ) : Type 0 where
    pub kept : IsKept journal
    pub in_area : journal.log.start ≡ area_at journal.log.size (1 - journal.area)
    pub next_is : journal.log.next ≡ next
    pub first : journal.log.first ≡ group (reverse carried)
    pub small : AllByRecursion IsSmall (reverse carried)
    pub gate : journal.log.gate ≡ 5 + length journal.log.first
    pub none_waits : journal.log.waiting ≡ []
    pub used_is : used ≡ used_by journal.log
    pub room : used ≤ journal.log.size
    pub saves : journal.saved ≤ 2 ^ 62 + records.saves
    pub few : journal.saved ≤ 2 ^ 63
    pub maps : records.image_limit ≡ maps_limit journal
