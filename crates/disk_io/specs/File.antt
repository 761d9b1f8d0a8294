-- No clause of `run` rests on this module: it serves contracts between crates.
--
-- What a disk in a file shows.
use Rattle.std.specs.Prelude.{ℕ}
use Rattle.disk_io.specs.declared.file.FileDisk.{FileDisk}

abbrev pub file_size : FileDisk → ℕ
file_size d = d.size

abbrev pub file_faults : FileDisk → ℕ
file_faults d = d.faults
