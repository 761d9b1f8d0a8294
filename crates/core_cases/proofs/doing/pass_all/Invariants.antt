use Rattle.core_cases.specs.Asking.{IsStanding}
use Rattle.core_cases.proofs.doing.pass_all.Given as goal

abbrev pub invariant-loop-call : goal.invariant-loop-call
invariant-loop-call l = IsStanding l.core
