use Rattle.core_cases.specs.Asking.{IsStanding}
use Rattle.core_cases.proofs.doing.all_text.Given as goal

abbrev pub invariant-loop-call : goal.invariant-loop-call
invariant-loop-call l = IsStanding l.core
