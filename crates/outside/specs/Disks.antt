-- No clause of `run` rests on this module: it serves contracts between crates.
--
-- What a disk of an outside in memory shows.
use Rattle.std.specs.Prelude.{◌≡◌, ℕ, Bool, if◌then◌else◌}
use Rattle.disk_io.specs.Counts.{one_up}
use Rattle.disk_io.specs.declared.memory.MemoryDisk.{MemoryDisk}
use Rattle.outside.specs.declared.list_disk.ListDisk.{ListDisk}

-- the disk itself
abbrev pub memory_of : ListDisk → MemoryDisk
memory_of d = d.memory

-- how often it has failed since it was opened or made
abbrev pub faults_since : ListDisk → ℕ
faults_since d = d.faults

-- a call that failed is one fault more
abbrev pub CountsOne : Bool → ListDisk → ListDisk → Type 0
CountsOne done old new = faults_since new ≡ (if done then faults_since old else one_up (faults_since old))
