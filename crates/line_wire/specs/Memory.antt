-- No clause of `run` rests on this module: it serves contracts between crates.
--
-- What a source and a sink in memory hold.
use Rattle.std.specs.Prelude.{ℕ, List, drop}
use Rattle.line_wire.specs.declared.memory.ListSource.{ListSource}
use Rattle.line_wire.specs.declared.memory.ListSink.{ListSink}

abbrev pub bytes_left : ListSource → List ℕ
bytes_left s = drop s.at s.bytes

abbrev pub bytes_written : ListSink → List ℕ
bytes_written s = s.bytes.items

-- how many bytes more a sink can hold
abbrev pub room_left : ListSink → ℕ
room_left s = s.room
