-- No clause of `run` rests on this module: it serves contracts between crates.
--
-- What a disk that keeps its bytes alone shows.
use Rattle.std.specs.Prelude.{ℕ, List}
use Rattle.disk_io.specs.declared.plain.PlainDisk.{PlainDisk}

-- what a read gives
abbrev pub plain_bytes : PlainDisk → List ℕ
plain_bytes d = d.bytes.items
