use Rattle.std.proofs.Common.{suc, ◌-◌}
use Rattle.image_rows.proofs.NumberBytes.{AreLeft}
use Rattle.image_rows.proofs.numbers.are_numbers.Given as goal

abbrev pub invariant-loop : goal.invariant-loop
invariant-loop l = AreLeft (suc l.fn.sums) l.fn.bytes (l.sums - l.counter) l.rest
