-- No clause of `run` rests on this module: it serves contracts between crates.
--
-- What an outside in memory shows.
use Rattle.std.specs.Prelude.{◌≡◌, ℕ, ◌==◌, Bool, List, Option, None, option_map, string_bytes}
use Rattle.std.specs.Prelude.{Result, MatchResult}
use Rattle.std.specs.List.{list_any}
use Rattle.disk_io.specs.Counts.{one_up}
use Rattle.outside.specs.declared.list_disk.ListDisk.{ListDisk}
use Rattle.outside.specs.declared.list_outside.ListOutside.{ListOutside}
use Rattle.outside.specs.declared.unmade.Unmade.{Unmade}
use Rattle.outside.specs.declared.unmade.Unmade.TheVariants as why
use Rattle.outside.specs.Closed.{lies_in}

-- the disk that lies under a name
abbrev pub lies_of : ListOutside → List ℕ → Option ListDisk
lies_of o name = lies_in o.closed.items name

-- the name that was opened or made last, until a disk is closed
abbrev pub open_of : ListOutside → Option (List ℕ)
open_of o = option_map string_bytes o.opened

abbrev pub faults_of : ListOutside → ℕ
faults_of o = o.faults

-- the room and the failing calls of its disks
abbrev pub room_of : ListOutside → ℕ
room_of o = o.room

abbrev pub disk_failing_of : ListOutside → List ℕ
disk_failing_of o = o.disk_failing

-- the numbers of its own calls that are to fail
abbrev pub failing_of : ListOutside → List ℕ
failing_of o = o.failing

-- how often a disk was to be opened or made
abbrev pub calls_of : ListOutside → ℕ
calls_of o = o.calls

-- whether the next call is one that is to fail
abbrev pub fails_next : ListOutside → Bool
fails_next o = list_any (λ n. n == one_up (calls_of o)) (failing_of o)

-- a new one
pub record IsNewOutside (room : ℕ) (disk_failing failing : List ℕ) (o : ListOutside) : Type 0 where
  pub nothing : (name : List ℕ) → lies_of o name ≡ None
  pub not_open : open_of o ≡ None
  pub no_faults : faults_of o ≡ 0
  pub room_given : room_of o ≡ room
  pub disks_fail : disk_failing_of o ≡ disk_failing
  pub fails : failing_of o ≡ failing
  pub no_calls : calls_of o ≡ 0

-- what it was made with stays
pub record KeepsSettings (old new : ListOutside) : Type 0 where
  pub room_kept : room_of new ≡ room_of old
  pub disks_fail : disk_failing_of new ≡ disk_failing_of old
  pub fails : failing_of new ≡ failing_of old

-- it is as before, but for one call more
pub record OneCallMore (old new : ListOutside) : Type 0 where
  pub counted : calls_of new ≡ one_up (calls_of old)
  pub closed_kept : new.closed ≡ old.closed
  pub open_kept : new.opened ≡ old.opened
  pub faults_kept : faults_of new ≡ faults_of old
  pub settings : KeepsSettings old new

-- a call fails exactly here; it has no other fault but want of memory
abbrev pub FailsWhere : {T : Type 0} → Type 0 → Result T Unmade → Type 0
FailsWhere P result = MatchResult result (λ _. P → ⊥) (λ cause. by_cause cause)
  where
    by_cause : Unmade → Type 0
    by_cause why.Failed = P
    by_cause why.NoMemory = P → ⊥
