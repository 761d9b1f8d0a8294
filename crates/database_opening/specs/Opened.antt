-- No clause of `run` rests on this module: it serves contracts between crates.
--
-- A core on a disk, as it is opened.
use Rattle.std.specs.Prelude.{◌≡◌, ℕ, ◌+◌, ◌≤◌, List, [], Some, Result, MatchResult}
use Rattle.txn_machine.specs.Laws.{IsOpened}
use Rattle.txn_machine.specs.Log.{Opening, block_bytes}
use Rattle.txn_machine.specs.State.{opened_state}
use Rattle.txn_machine.specs.Store.{opened}
use Rattle.txn_log.specs.Replay.{Pages, Reading, recovered}
use Rattle.txn_log.specs.Refused.{PlacedImage, ReversesAs, IsFine}
use Rattle.txn_log.specs.Stored.{AllCreate}
use Rattle.log_disk.specs.Placed.{data_limit}
use Rattle.ordered_index.specs.Tree.{Tree, map_of, limit_of}
use Rattle.core_journal.specs.Records.{Records, Saved}
use Rattle.core_recording.specs.Giving.{IsSaved}
use Rattle.log_journal.specs.Standing.{Has, area_limit, disk_of}
use Rattle.log_journal.specs.declared.journal.LogJournal.{LogJournal}
use Rattle.data_store.specs.declared.store.DataStore.{DataStore}
use Rattle.core_opening.specs.Opening.{CanOpen}
use Rattle.engine_core.specs.Standing.{IsOnDisk}
use Rattle.engine_core.specs.declared.engine.Core.{Core}
use Rattle.image_finding.specs.Rules.{PassesUpTo}
use Rattle.image_finding.specs.declared.header.LiveHeader.{LiveHeader}
use Rattle.record_replay.specs.Standing.{Has as HasPages}
use Rattle.image_pages.specs.Pages.{no_limit}
use Rattle.image_opening.specs.Faults.{counted_by}
use Rattle.image_opening.specs.Images.{IsImageIn}
use Rattle.image_opening.specs.declared.fault.OpenFault.{OpenFault}
use Rattle.image_opening.specs.declared.fault.OpenFault.TheVariants as why
use Rattle.image_opening.specs.declared.read.Recovered.{Recovered}
use Rattle.table_store.specs.Lists.{map_at}
use Rattle.database_opening.specs.declared.refused.OpenRefused.{OpenRefused}

-- its maps are pages, and its journal is on a disk
abbrev pub DiskCore : Type 0 → Type 0
DiskCore D = Core Tree (LogJournal D)

-- ---- what is opened

-- what was read has these pages, with their commit number
pub record IsOf (r : Recovered) (p : Pages) : Type 0 where
  pub has : HasPages map_at no_limit r.replay.store p
  pub commits : r.replay.commits ≡ p.db.number

-- an opening of a database with these texts of its definitions: the sizes of its log and of its data are those of the header, the next
-- record has this number, and the disk has failed so often and is at this moment
abbrev pub opening_of : LiveHeader → List (List ℕ) → ℕ → ℕ → ℕ → Opening
opening_of h texts next faults moment = record { log_limit = Some h.area_bytes; data_limit = Some (data_limit h.pages); definitions = texts; next = next; faults = faults; moment = moment }

-- a core can be opened on a store that has these pages
pub record CanBegin (store : DataStore Tree) (h : LiveHeader) (commits next : ℕ) (p : Pages) : Type 0 where
  pub texts : List (List ℕ)
  pub create : AllCreate [] texts p.db.schema
  pub opens : (faults moment : ℕ) → CanOpen map_of limit_of store (Some h.area_bytes) (data_limit h.pages) commits next (opening_of h texts next faults moment) p.db p.view

-- ---- a core that was opened

-- what its checkpoint saves: the entries and the definitions of the store, and no record
abbrev pub saved_of : DataStore Tree → ℕ → ℕ → Saved
saved_of store commits next = record { maps = map_of store.tables; definitions = store.catalog; commits = commits; next = next; carried = [] }

module _ {D : Type 0} (is_told : Type 0) (size_of : D → ℕ) (seen : D → List ℕ) (may_leave : D → List ℕ → Type 0) (faults : D → ℕ) where
  -- a journal that has saved the checkpoint of the opening, and has no record beside it
  pub record HasBegun (journal : LogJournal D) (store : DataStore Tree) (h : LiveHeader) (commits next : ℕ) : Type 0 where
    pub records : Records
    pub has : Has is_told size_of seen may_leave journal records
    pub saved : records.saved ≡ saved_of store commits next
    pub flushed : records.flushed ≡ []
    pub waiting : records.waiting ≡ []
    pub used : records.used ≡ block_bytes + 1
    pub saves : records.saves ≤ 1
    pub image_limit : records.image_limit ≡ Some (data_limit h.pages)
    pub limit : area_limit journal ≡ Some h.area_bytes

module _ {D : Type 0} (is_told : Type 0) (size_of : D → ℕ) (seen : D → List ℕ) (may_leave : D → List ℕ → Type 0) (moment : D → ℕ) (left_since : D → ℕ → List ℕ → Type 0) (faults : D → ℕ) where
  -- it stands where steps begin, on these pages, which its disk has as a checkpoint without a record
  pub record IsOpenOn (core : DiskCore D) (p : Pages) : Type 0 where
    pub opening : Opening
    pub was_opened : IsOpened p.db p.view
    pub stands : IsOnDisk is_told size_of seen may_leave moment left_since faults core (opened_state opening (opened p.db p.view))
    pub records : Records
    pub has : Has is_told size_of seen may_leave core.journal records
    pub saved : IsSaved (opened_state opening (opened p.db p.view)) records.saved
    pub flushed : records.flushed ≡ []
    pub waiting : records.waiting ≡ []

  -- these bytes fail no rule up to 12, so that an image stands there; it is refused for nothing, and the core stands on what it recovers to
  abbrev pub OpensAs : List ℕ → DiskCore D → Type 0
  OpensAs c core = PassesUpTo 12 c × ((i : PlacedImage) → IsImageIn c i → IsFine i × ((r : Reading) × ReversesAs i r × IsOpenOn core (recovered r)))

-- the image was refused: it was not the disk that failed, nor memory
abbrev pub IsRefusal : OpenFault → Type 0
IsRefusal (why.BadImage bad) = Unit {0}
IsRefusal (why.BadView wrong) = Unit {0}
IsRefusal why.DiskFault = ⊥
IsRefusal why.NoMemory = ⊥

-- the disk's count of faults rose exactly with a fault of the disk
abbrev pub OpenCounts : {D : Type 0} → (D → ℕ) → ℕ → Result (DiskCore D) (OpenRefused D) → Type 0
OpenCounts faults before result = MatchResult result (λ core. faults (disk_of core.journal) ≡ before) (λ refused. counted_by refused.fault before (faults refused.disk))
