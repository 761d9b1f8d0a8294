use Rattle.std.specs.Fn.{FnReturnsAt}
use Rattle.bind_resolve.proofs.EachLemmas.{Found}
use Rattle.bind_resolve.proofs.expressions.each.Given as goal

abbrev pub invariant-loop-item : goal.invariant-loop-item
invariant-loop-item g l = Found (λ x r. FnReturnsAt g.F.Fn l.step x r) l.items l.item-index l.found
