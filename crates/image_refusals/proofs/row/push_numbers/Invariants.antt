use Rattle.std.proofs.Common.{◌≡◌, ◌++◌, take}
use Rattle.image_refusals.specs.Lines.{numbers_of}
use Rattle.image_refusals.proofs.row.push_numbers.Given as goal

abbrev pub invariant-loop-number : goal.invariant-loop-number
invariant-loop-number l = l.text.items ≡ l.fn.text.items ++ numbers_of (take l.number-index l.number-items)
