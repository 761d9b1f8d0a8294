use Rattle.std.proofs.Common.{length, map}
use Rattle.std.specs.Prelude.{string_bytes}
use Rattle.command_words.proofs.PartLaws.{Walked}
use Rattle.command_words.proofs.init.is_init.Given as goal

-- what was walked over are parts, and these were met
abbrev pub invariant-loop-rest : goal.invariant-loop-rest
invariant-loop-rest l = Walked (map string_bytes l.words) (map string_bytes l.rest) l.met

abbrev pub decreases-loop-rest : goal.decreases-loop-rest
decreases-loop-rest l = length l.rest
