use Rattle.std.proofs.Common.{◌+◌, ◌<◌, ◌∙◌, refl, arith}
use Rattle.txn_machine.specs.State.{most_steps}
use Rattle.session_table.proofs.Asking.{passes_zero, passes_needs, passes_on, passes_over, passes_never}
use Rattle.session_table.proofs.Losing.{lost_so, pass_lost}
use Rattle.session_table.proofs.trying.retry.Goals as goal

pub loop-init : goal.loop-init
loop-init g c = record { count = refl; slots = c.requires.slots; known = passes_zero (g.S.Stepper.stands c.args.engine.now) c.args.slots.now c.args.text.now.items c.requires.engine }

pub pass_from-requires-clause-engine : goal.pass_from-requires-clause-engine
pass_from-requires-clause-engine g c = passes_needs (g.S.Stepper.stands c.args.engine.now) c.args.slots.now c.args.text.now.items c.loop.slots c.loop.text.items c.loop.counter c.requires.engine c.loop.invariant.known

pub returns-in_err-pass_from-clause-lost : goal.returns-in_err-pass_from-clause-lost
returns-in_err-pass_from-clause-lost g c = lost_so c.from_residual.result (pass_lost (g.S.Stepper.stands c.args.engine.now) c.args.slots.now c.args.text.now.items c.loop.counter c.loop.slots c.loop.text.items c.loop.invariant.known c.in_err-pass_from.ensures.lost)

pub returns-then-not-branch-clause-retried : goal.returns-then-not-branch-clause-retried
returns-then-not-branch-clause-retried g c = passes_over (g.S.Stepper.stands c.args.engine.now) c.args.slots.now c.args.text.now.items c.loop.slots c.pass_from.new.slots c.loop.text.items c.pass_from.new.text.items c.loop.counter c.in_ok-pass_from.field-0 c.if-not-branch.true
    c.loop.invariant.known c.in_ok-pass_from.ensures.passed

pub loop-preserved : goal.loop-preserved
loop-preserved g c = record {
  count = c.pass_from.auto.slots ∙ c.loop.invariant.count;
  slots = c.pass_from.ensures.slots;
  known = passes_on (g.S.Stepper.stands c.args.engine.now) c.args.slots.now c.args.text.now.items c.loop.slots c.pass_from.new.slots c.loop.text.items c.pass_from.new.text.items c.loop.counter c.in_ok-pass_from.field-0 c.pass_from.auto.slots c.if-not-branch.false
      c.loop.invariant.known c.in_ok-pass_from.ensures.passed;
}

pub returns-clause-retried : goal.returns-clause-retried
returns-clause-retried g c =
    let over : most_steps + 64 < c.loop.counter = omega arith in
    absurd (passes_never (g.S.Stepper.stands c.args.engine.now) c.args.slots.now c.args.text.now.items c.loop.slots c.loop.text.items c.loop.counter c.requires.count over c.requires.engine c.loop.invariant.known)
