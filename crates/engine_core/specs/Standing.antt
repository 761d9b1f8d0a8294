-- No clause of `run` rests on this module: it serves contracts between crates.
--
-- In which states of the machine a core is.
use Rattle.std.specs.Prelude.{◌≡◌, ℕ, ◌+◌, ◌<◌, ◌≤◌, ◌^◌, List, [], Option, None}
use Rattle.std.specs.FinMap.{empty}
use Rattle.std.proofs.Common.{arith}
use Rattle.iv_types.specs.Maps.{Map}
use Rattle.txn_machine.specs.State.{State}
use Rattle.txn_log.specs.Replay.{Pages}
use Rattle.ordered_index.specs.Tree.{Tree, map_of, spare_of, limit_of}
use Rattle.core_journal.specs.NoJournal as no_journal
use Rattle.core_journal.specs.Records.{Records, Saved}
use Rattle.core_journal.specs.declared.none.NoJournal.{NoJournal}
use Rattle.core_recording.specs.Giving.{IsBehind}
use Rattle.log_journal.specs.Standing.{Has, area_limit, disk_of}
use Rattle.log_journal.specs.declared.journal.LogJournal.{LogJournal}
use Rattle.core_state.specs.Stands.{Stands}
use Rattle.engine_core.specs.Crashes.{Lasts}
use Rattle.engine_core.specs.declared.engine.Core.{Core}

-- what is saved of a database that defines nothing, with this greatest commit number
abbrev pub nothing_saved : ℕ → Saved
nothing_saved number = record { maps = λ index. empty; definitions = []; commits = number; next = 1; carried = [] }

module _ {M J : Type 0} (maps : M → ℕ → Map) (spare : M → ℕ → ℕ) (limit : M → Option ℕ) (has : J → Records → Type 0) (area : J → Option ℕ) (faults : J → ℕ) where
  -- that of what it holds, of whose log its journal has the records, unless it is stopped
  pub record IsIn (core : Core M J) (s : State) : Type 0 where
    pub stands : Stands maps spare limit core.state s
    pub records : Records
    pub behind : s.stop ≡ None → IsBehind maps spare limit has area core.state core.journal s.log records
    -- a step saves one checkpoint at most, beside that of the opening
    pub few : records.saves ≤ s.steps + 1
    -- and its disk has failed no more than when it was opened
    pub well : s.stop ≡ None → faults core.journal ≡ s.opening.faults

-- the same of a core without a disk, whose maps are trees of pages
abbrev pub IsInMemory : Core Tree NoJournal → State → Type 0
IsInMemory core s = IsIn map_of spare_of limit_of no_journal.has_any no_journal.limit_of (λ journal. 0) core s

-- The same of one on a disk, which was opened on some pages; what a crash at any moment since then left of it recovers to what was committed up
-- to some number.
module _ {D : Type 0} (is_told : Type 0) (size_of : D → ℕ) (seen : D → List ℕ) (may_leave : D → List ℕ → Type 0) (moment : D → ℕ) (left_since : D → ℕ → List ℕ → Type 0) (faults : D → ℕ) where
  pub record IsOnDisk (core : Core Tree (LogJournal D)) (s : State) : Type 0 where
    pub is_in : IsIn map_of spare_of limit_of (Has is_told size_of seen may_leave) area_limit (λ journal. faults (disk_of journal)) core s
    pub pages : Pages
    pub lasts : Lasts is_told may_leave moment left_since faults pages core.journal s is_in.records

-- a count of no faults is a u64
pub none_below : 0 < 2 ^ 64
none_below = omega arith
