use Rattle.std.proofs.Common.{◌∙◌, ap, ◌++◌, ◌∷◌, []}
use Rattle.std.proofs.lemmas.Result.{on_ok_weaker}
use Rattle.iv_types.specs.declared.reply.Reply.TheVariants as reply
use Rattle.iv_meaning.specs.Reply.{reply_lines}
use Rattle.session_table.proofs.Doing.{runs_refused_told, given_needs, ran_told, fits_kept, waiting_not}
use Rattle.session_table.proofs.Losing.{lost_so, stood, given_lost}
use Rattle.session_table.proofs.lines.run_text.Goals as goal

pub returns-in-Some-clause-did : goal.returns-in-Some-clause-did
returns-in-Some-clause-did g c = on_ok_weaker c.push_one.result (λ told. runs_refused_told (g.S.Stepper.stands c.args.engine.now) c.args.slot.now c.args.text.now.items c.requires.fits c.args.read c.in-Some.why c.give.new.slot c.push_one.new.text.items
    c.in-Some.ensures.gave c.give.ensures.number c.give.ensures.within (told ∙ ap (λ i. c.args.text.now.items ++ reply_lines i (reply.Error c.in-Some.why ∷ [])) c.number.ensures)) c.push_one.ensures

pub returns-in-Some-clause-lost : goal.returns-in-Some-clause-lost
returns-in-Some-clause-lost g c = lost_so c.push_one.result (λ s st go. stood (g.S.Stepper.stands c.args.engine.now) s st)

pub go_on-came-requires-clause-busy : goal.go_on-came-requires-clause-busy
go_on-came-requires-clause-busy g c = c.in_default.ensures.gave.3

pub go_on-came-requires-clause-engine : goal.go_on-came-requires-clause-engine
go_on-came-requires-clause-engine g c = given_needs (g.S.Stepper.stands c.args.engine.now) c.args.slot.now c.args.text.now.items c.requires.fits c.args.read c.give.new.slot c.requires.read c.in_default.ensures.gave c.give.ensures.number c.give.ensures.within c.requires.engine

pub returns-clause-did : goal.returns-clause-did
returns-clause-did g c = on_ok_weaker c.tell.result (λ told. ran_told (g.S.Stepper.stands c.args.engine.now) c.args.slot.now c.args.text.now.items c.requires.fits c.go_on-came.new.session c.tell.new.slot c.tell.new.text.items c.tell.ensures.session
    c.args.read c.give.new.slot c.go_on-came.result c.requires.read c.in_default.ensures.gave c.give.ensures.number c.give.ensures.within c.tell.ensures.line c.go_on-came.ensures.number told c.go_on-came.ensures.went) c.tell.ensures.told

pub returns-clause-lost : goal.returns-clause-lost
returns-clause-lost g c = lost_so c.tell.result (given_lost (g.S.Stepper.stands c.args.engine.now) c.args.slot.now c.requires.fits c.args.read c.give.new.slot c.requires.read c.in_default.ensures.gave c.give.ensures.number c.give.ensures.within
    c.go_on-came.result c.go_on-came.new.session c.go_on-came.ensures.went)

pub returns-clause-fits : goal.returns-clause-fits
returns-clause-fits g c = fits_kept c.tell.new.slot c.go_on-came.new.session c.go_on-came.result.came _ _ c.tell.ensures.session c.tell.ensures.line waiting_not waiting_not c.go_on-came.ensures.idle
