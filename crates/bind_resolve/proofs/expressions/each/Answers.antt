use Rattle.std.specs.Fn.{FnReturnsAt}
use Rattle.bind_resolve.proofs.EachLemmas.{next, fails, ends, returned, exits}
use Rattle.bind_resolve.proofs.expressions.each.Goals as goal

pub returns-in_err-step : goal.returns-in_err-step
returns-in_err-step g c =
    exits (λ x r. FnReturnsAt g.F.Fn c.args.step x r) _ _ c.in_err-step.field-0.0 c.from_residual.ensures.1
    (fails (λ x r. FnReturnsAt g.F.Fn c.args.step x r) _ _ c.item-item.result _ c.in_err-step.field-0.0 c.loop-item-test.true c.item-item.is (returned g.F.Fn _ _ _ _ c.in_err-step.was c.step.ensures) c.loop-item.invariant)

pub loop-item-preserved : goal.loop-item-preserved
loop-item-preserved g c =
    next (λ x r. FnReturnsAt g.F.Fn c.args.step x r) _ _ c.item-item.result c.in_ok-step.field-0 _ _ c.loop-item-test.true c.item-item.is (returned g.F.Fn _ _ _ _ c.in_ok-step.was c.step.ensures) c.in_ok-push.ensures.ok c.loop-item.invariant

pub returns : goal.returns
returns g c = ends (λ x r. FnReturnsAt g.F.Fn c.args.step x r) _ _ _ c.loop-item-test.false c.loop-item.invariant
