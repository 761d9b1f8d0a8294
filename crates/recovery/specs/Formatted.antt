-- No clause of `run` rests on this module: it serves contracts between crates.
--
-- A disk with a new database.
use Rattle.std.specs.Prelude.{◌≡◌, ℕ, ◌+◌, ◌*◌, ◌≤◌, [], None, Result, MatchResult}
use Rattle.std.specs.List.{AllByRecursion}
use Rattle.std.specs.FinMap.{empty}
use Rattle.iv_types.specs.Faults.{Rose}
use Rattle.iv_meaning.specs.Database.{created}
use Rattle.page_store.specs.Image as page
use Rattle.txn_log.specs.Appended.{Image}
use Rattle.recovery.specs.declared.format.FormatFault.{FormatFault}
use Rattle.recovery.specs.declared.format.FormatFault.TheVariants.{DiskFault, NoMemory}

-- the bytes of a log area of so many KiB
abbrev pub area_bytes : ℕ → ℕ
area_bytes log_kib = 1024 * log_kib

-- the bytes of a disk with so many pages and two such log areas
abbrev pub disk_size : ℕ → ℕ → ℕ
disk_size pages log_kib = 278528 + 2 * area_bytes log_kib + 16384 * pages

-- the sizes that a disk may have
pub record IsGeometry (pages log_kib : ℕ) : Type 0 where
  pub least_pages : 512 ≤ pages
  pub most_pages : pages ≤ 131072
  pub least_log : 64 ≤ log_kib
  pub most_log : log_kib ≤ 262144

-- a database that defines nothing, with number 0, and a log without records
abbrev pub blank : Image
blank = record { pages = record { db = created; view = empty }; carried = []; after = [] }

-- the live header of a new database: its own number and the next record's are 1, its log is in area 0, and it names no page
pub record IsFirst (here : page.Image) : Type 0 where
  pub number : here.number ≡ 1
  pub next_entry : here.next_entry ≡ 1
  pub area : here.area ≡ 0
  pub no_pages : AllByRecursion (λ stored. stored ≡ None) here.stored

-- the disk's count of faults rose exactly with a fault of the disk
abbrev pub FormatFaults : {T : Type 0} → Result T FormatFault → ℕ → ℕ → Type 0
FormatFaults result before now = MatchResult result (λ _. now ≡ before) (λ fault. by_fault fault before now)
  where
    by_fault : FormatFault → ℕ → ℕ → Type 0
    by_fault DiskFault before now = Rose before now
    by_fault NoMemory before now = now ≡ before
