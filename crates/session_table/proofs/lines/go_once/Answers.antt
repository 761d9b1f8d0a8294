use Rattle.session_table.proofs.Once.{had_told, stuck_told, ended_told, stepped_told}
use Rattle.session_table.proofs.lines.go_once.Goals as goal

pub returns-then-has_ended-clause-once : goal.returns-then-has_ended-clause-once
returns-then-has_ended-clause-once g c = had_told (g.S.Stepper.stands c.args.engine.now) c.args.session.now c.finished.new.session c.finished.result c.finished.ensures.told c.finished.ensures.idle c.finished.ensures.number c.finished.ensures.within

pub step_on-requires-clause-asks : goal.step_on-requires-clause-asks
step_on-requires-clause-asks g c = c.has_ended.ensures.busy c.if-has_ended.false

pub returns-in-Some-clause-once : goal.returns-in-Some-clause-once
returns-in-Some-clause-once g c = stuck_told (g.S.Stepper.stands c.args.engine.now) c.args.session.now c.step_on.new.session c.step_on.result c.step_on.ensures.stepped c.in-Some.sessions c.in-Some.is

pub finished-requires-then-has_ended-2-clause-ended : goal.finished-requires-then-has_ended-2-clause-ended
finished-requires-then-has_ended-2-clause-ended g c = c.has_ended-2.ensures.ended c.if-has_ended-2.true

pub returns-then-has_ended-2-clause-once : goal.returns-then-has_ended-2-clause-once
returns-then-has_ended-2-clause-once g c = let f = c.finished-then-has_ended-2 in ended_told (g.S.Stepper.stands c.args.engine.now) c.args.session.now c.step_on.new.session c.step_on.result c.step_on.ensures.stepped c.in_default.is f.new.session f.result
    f.ensures.told f.ensures.idle c.step_on.ensures.number f.ensures.number f.ensures.within

pub returns-clause-once : goal.returns-clause-once
returns-clause-once g c = stepped_told (g.S.Stepper.stands c.args.engine.now) c.args.session.now c.step_on.new.session c.step_on.result c.step_on.ensures.stepped c.in_default.is c.step_on.ensures.number
    (c.has_ended-2.ensures.busy c.if-has_ended-2.false)
