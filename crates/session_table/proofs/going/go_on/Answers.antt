use Rattle.std.proofs.Common.{◌+◌, ◌<◌, ◌∙◌, refl, arith}
use Rattle.txn_machine.specs.State.{most_steps}
use Rattle.session_table.specs.declared.going.Came.TheVariants as came
use Rattle.session_table.proofs.Asking.{go_none, go_needs, go_more, go_stuck, go_ended, go_over}
use Rattle.session_table.proofs.going.go_on.Goals as goal

pub loop-init : goal.loop-init
loop-init g c = record { number = refl; busy = c.requires.busy; known = go_none (g.S.Stepper.stands c.args.engine.now) c.args.session.now c.requires.engine }

pub finished-requires-clause-ended : goal.finished-requires-clause-ended
finished-requires-clause-ended g c = c.has_ended.ensures.ended c.if-has_ended.true

pub returns-then-has_ended-clause-went : goal.returns-then-has_ended-clause-went
returns-then-has_ended-clause-went g c = go_ended (g.S.Stepper.stands c.args.engine.now) c.args.session.now c.loop.session c.finished.new.session c.loop.moved c.loop.counter c.finished.result c.loop.invariant.known c.finished.ensures.told c.finished.ensures.number
    c.finished.ensures.idle c.finished.ensures.within

pub step_on-requires-clause-asks : goal.step_on-requires-clause-asks
step_on-requires-clause-asks g c = c.has_ended.ensures.busy c.if-has_ended.false

pub step_on-requires-clause-engine : goal.step_on-requires-clause-engine
step_on-requires-clause-engine g c = go_needs (g.S.Stepper.stands c.args.engine.now) c.args.session.now c.loop.session c.loop.moved c.loop.counter c.requires.engine c.loop.invariant.known

pub returns-in-Some-clause-went : goal.returns-in-Some-clause-went
returns-in-Some-clause-went g c = go_stuck (g.S.Stepper.stands c.args.engine.now) c.args.session.now c.loop.session c.step_on.new.session c.loop.moved c.loop.counter c.step_on.result c.in-Some.sessions c.in-Some.is c.loop.invariant.number
    (c.step_on.ensures.number ∙ c.loop.invariant.number) c.loop.invariant.known c.step_on.ensures.stepped

pub loop-preserved : goal.loop-preserved
loop-preserved g c = record {
  number = c.step_on.ensures.number ∙ c.loop.invariant.number;
  busy = c.step_on.ensures.busy;
  known = go_more (g.S.Stepper.stands c.args.engine.now) c.args.session.now c.loop.session c.step_on.new.session c.loop.moved c.loop.counter c.step_on.result c.in_default.is c.loop.invariant.number
      (c.step_on.ensures.number ∙ c.loop.invariant.number) c.loop.invariant.known c.step_on.ensures.stepped;
}

pub returns-clause-went : goal.returns-clause-went
returns-clause-went g c =
    let over : most_steps + 1 < c.loop.counter = omega arith in
    go_over (g.S.Stepper.stands c.args.engine.now) c.args.session.now c.loop.session c.loop.moved c.loop.counter (record { moved = c.loop.moved; came = came.Stepped }) c.loop.invariant.known over
