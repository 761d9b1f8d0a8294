use Rattle.std.proofs.Common.{◌≡◌, ◌++◌, length}
use Rattle.statement_law.specs.Telling.{text_in}
use Rattle.engine_refusals.proofs.texts.text_in.Given as goal

abbrev pub invariant-loop-byte : goal.invariant-loop-byte
invariant-loop-byte l = l.text.items ++ text_in l.rest ≡ text_in l.bytes

abbrev pub decreases-loop-byte : goal.decreases-loop-byte
decreases-loop-byte l = length l.rest
