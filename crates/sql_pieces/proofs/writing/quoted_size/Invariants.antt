use Rattle.std.proofs.Common.{◌≡◌, ◌+◌, take, length, min}
use Rattle.std.specs.List.{flat_map}
use Rattle.iv_types.specs.Printing.{quoted_byte, most_counted}
use Rattle.sql_pieces.proofs.writing.quoted_size.Given as goal

abbrev pub invariant-loop-byte : goal.invariant-loop-byte
invariant-loop-byte l = l.count ≡ min most_counted (2 + length (flat_map quoted_byte (take l.byte-index l.content)))
