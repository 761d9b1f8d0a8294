-- What comes of `init`.
use Rattle.std.specs.Prelude.{◌≡◌, ◌⊎◌, ℕ, List, ◌++◌, codes, decimal, Option, Some}
use Rattle.iv_types.specs.Faults.{Rose}
use Rattle.disk_io.specs.Disk.{Only}
use Rattle.line_wire.specs.Wire.{WroteFront}
use Rattle.log_disk.specs.Bears.{Bears}
use Rattle.recovery.specs.Formatted.{area_bytes, blank}
use Rattle.script_run.specs.declared.status.Status.{Status}
use Rattle.script_run.specs.declared.status.Status.TheVariants.{Done, WriteFault, DiskFault, NoMemory}

-- the line that tells the sizes of a database that was made
abbrev pub init_line : ℕ → ℕ → List ℕ
init_line pages log_kib = codes "INIT " ++ (decimal pages ++ (codes " " ++ (decimal log_kib ++ codes "\n")))

-- the database was made; what was told of it may have failed
abbrev pub IsMade : Status → Type 0
IsMade status = (status ≡ Done) ⊎ (status ≡ WriteFault)

-- the statuses with which it may end
abbrev pub EndsInit : Status → Type 0
EndsInit status = IsMade status ⊎ ((status ≡ DiskFault) ⊎ (status ≡ NoMemory))

-- What was written by the status with which it ends: with Done the line, with a fault of the sink a front of it, and nothing with
-- another.
abbrev pub ToldInit : Status → ℕ → ℕ → List ℕ → Option (List ℕ) → Type 0
ToldInit Done pages log_kib before written = written ≡ Some (before ++ init_line pages log_kib)
ToldInit WriteFault pages log_kib before written = WroteFront before (init_line pages log_kib) written
ToldInit _ pages log_kib before written = written ≡ Some before

-- A disk lies there that bears a database of these sizes, which defines nothing, and a crash leaves nothing else of it.
pub record HasBlank {D : Type 0} (seen : D → List ℕ) (may_leave : D → List ℕ → Type 0) (lies : Option D) (pages log_kib : ℕ) : Type 0 where
  pub disk : D
  pub there : lies ≡ Some disk
  pub bears : Bears (area_bytes log_kib) pages (seen disk) blank
  pub durable : Only (seen disk) (may_leave disk)

-- the outside's count of disks rose exactly with a fault of a disk
abbrev pub DiskFaults : Status → ℕ → ℕ → Type 0
DiskFaults DiskFault before now = Rose before now
DiskFaults _ before now = now ≡ before
