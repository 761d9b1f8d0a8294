use Rattle.session_table.proofs.Ending.{taken_none, taken_needs, taken_end, taken_more, taken_stops, taken_all}
use Rattle.session_table.proofs.leaving.roll_back.Goals as goal

pub loop-init : goal.loop-init
loop-init g c = taken_none c.args.session c.requires.session (g.S.Stepper.stands c.args.engine.now) c.args.kept

pub take_one-requires-clause-engine : goal.take_one-requires-clause-engine
take_one-requires-clause-engine g c =
    taken_needs c.args.session c.requires.session (g.S.Stepper.stands c.args.engine.now) c.args.kept c.loop.counter c.loop-test.true c.requires.engine c.loop.invariant

pub returns-then-not-take_one : goal.returns-then-not-take_one
returns-then-not-take_one g c =
    taken_stops c.args.session c.requires.session (g.S.Stepper.stands c.args.engine.now) c.args.kept c.loop.counter c.loop.invariant c.take_one.result c.if-not-take_one.true c.loop-test.true c.take_one.ensures

pub loop-preserved : goal.loop-preserved
loop-preserved g c =
    taken_more c.args.session c.requires.session (g.S.Stepper.stands c.args.engine.now) c.args.kept c.loop.counter c.loop.invariant c.take_one.result c.if-not-take_one.false c.loop-test.true c.take_one.ensures

pub end-requires-clause-engine : goal.end-requires-clause-engine
end-requires-clause-engine g c =
    taken_end c.args.session c.requires.session (g.S.Stepper.stands c.args.engine.now) c.args.kept c.loop.counter c.loop-test.false c.requires.engine c.loop.invariant

pub returns : goal.returns
returns g c = taken_all c.args.session c.requires.session (g.S.Stepper.stands c.args.engine.now) c.args.kept c.loop.counter c.loop.invariant c.loop-test.false c.end.ensures
