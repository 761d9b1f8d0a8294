use Rattle.std.proofs.Common.{◌≡◌, length}
use Rattle.statement_law.specs.Telling.{behind_text}
use Rattle.engine_refusals.proofs.texts.behind_text.Given as goal

abbrev pub invariant-loop-after : goal.invariant-loop-after
invariant-loop-after l = behind_text l.bytes ≡ behind_text l.rest

abbrev pub decreases-loop-after : goal.decreases-loop-after
decreases-loop-after l = length l.rest
