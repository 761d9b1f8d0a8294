use Rattle.std.proofs.Common.{◌≡◌, ◌++◌, ◌∷◌, [], take}
use Rattle.std.specs.List.{flat_map}
use Rattle.iv_types.specs.Printing.{quoted_byte}
use Rattle.sql_print.proofs.bytes.push_quoted.Given as goal

abbrev pub invariant-loop-byte : goal.invariant-loop-byte
invariant-loop-byte l = l.text.items ≡ (l.fn.text.items ++ 39 ∷ []) ++ flat_map quoted_byte (take l.byte-index l.content)
