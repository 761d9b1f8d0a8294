-- No clause of `run` rests on this module: it serves contracts between crates.
--
-- Records that say what some definitions know, and that these can be written.
use Rattle.std.specs.Prelude.{◌<◌, ◌^◌, length}
use Rattle.iv_meaning.specs.Schema.{Schema}
use Rattle.query_laws.specs.Limited.{IsLimited}
use Rattle.txn_machine.specs.Records.{Record, Write, Delta, Ghost, Clean, Definition}
use Rattle.txn_log.specs.Replay.{Added}
use Rattle.txn_log.specs.Fitting.{IsChange, IsGroup, IsKnown}
use Rattle.log_records.specs.Spelling.{IsShort}
use Rattle.log_disk.specs.Spelled.{in_bytes}

-- a Write is of a table and a Delta of a view that are there, a Ghost and a Clean are of a group of one, and a text has a length of four bytes
abbrev pub IsOf : Schema → Record → Type 0
IsOf objects (Write transaction c) = IsChange objects c
IsOf objects (Delta transaction d) = IsKnown objects (Added d)
IsOf objects (Ghost place) = IsGroup objects place
IsOf objects (Clean place) = IsGroup objects place
IsOf objects (Definition number session text) = length text < 2 ^ 32
IsOf objects _ = Unit {0}

-- within the limits of definitions its bytes can hold it
abbrev pub ShortLaw : Type 0
ShortLaw = (objects : Schema) → IsLimited objects → (r : Record) → IsOf objects r → IsShort (in_bytes objects r)
