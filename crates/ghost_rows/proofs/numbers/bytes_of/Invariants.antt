use Rattle.std.proofs.Common.{◌≡◌, ◌++◌, drop}
use Rattle.ghost_rows.specs.Numbers.{numbers_bytes}
use Rattle.ghost_rows.proofs.numbers.bytes_of.Given as goal

abbrev pub invariant-loop-index : goal.invariant-loop-index
invariant-loop-index l = l.out.items ++ numbers_bytes (drop l.index l.numbers) ≡ numbers_bytes l.numbers
