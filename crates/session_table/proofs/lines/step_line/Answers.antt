use Rattle.std.proofs.lemmas.Result.{on_ok_weaker}
use Rattle.session_table.proofs.Doing.{no_step_told, stepped_on_told, stepping_busy, fits_kept, stepping_not, held_not}
use Rattle.session_table.proofs.Losing.{lost_so, stood, went_once_lost}
use Rattle.session_table.proofs.lines.step_line.Goals as goal

pub returns-then-not-is_stepping-clause-did : goal.returns-then-not-is_stepping-clause-did
returns-then-not-is_stepping-clause-did g c = on_ok_weaker c.push_one.result (λ told. no_step_told (g.S.Stepper.stands c.args.engine.now) c.args.slot.now c.args.text.now.items c.requires.fits c.push_one.new.text.items
    (c.is_stepping.ensures.rests c.if-not-is_stepping.true) told) c.push_one.ensures

pub returns-then-not-is_stepping-clause-lost : goal.returns-then-not-is_stepping-clause-lost
returns-then-not-is_stepping-clause-lost g c = lost_so c.push_one.result (λ s st go. stood (g.S.Stepper.stands c.args.engine.now) s st)

pub go_once-came-requires-clause-busy : goal.go_once-came-requires-clause-busy
go_once-came-requires-clause-busy g c = stepping_busy c.args.slot.now (c.is_stepping.ensures.steps c.if-not-is_stepping.false) c.requires.fits

pub returns-clause-did : goal.returns-clause-did
returns-clause-did g c = on_ok_weaker c.tell.result (λ told. stepped_on_told (g.S.Stepper.stands c.args.engine.now) c.args.slot.now c.args.text.now.items c.requires.fits c.go_once-came.new.session c.tell.new.slot c.tell.new.text.items c.tell.ensures.session
    c.go_once-came.result (c.is_stepping.ensures.steps c.if-not-is_stepping.false) c.tell.ensures.line c.go_once-came.ensures.number told c.go_once-came.ensures.once) c.tell.ensures.told

pub returns-clause-lost : goal.returns-clause-lost
returns-clause-lost g c = lost_so c.tell.result (went_once_lost (g.S.Stepper.stands c.args.engine.now) c.args.slot.now.session c.go_once-came.result c.go_once-came.new.session c.go_once-came.ensures.once)

pub returns-clause-fits : goal.returns-clause-fits
returns-clause-fits g c = fits_kept c.tell.new.slot c.go_once-came.new.session c.go_once-came.result _ _ c.tell.ensures.session c.tell.ensures.line held_not stepping_not c.go_once-came.ensures.idle
