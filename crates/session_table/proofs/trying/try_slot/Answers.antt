use Rattle.session_table.proofs.Doing.{tried_not_told, tried_told, waiting_fits, fits_kept, waiting_not}
use Rattle.session_table.proofs.Losing.{lost_so, went_lost}
use Rattle.session_table.proofs.trying.try_slot.Goals as goal

pub returns-in_default-clause-tried : goal.returns-in_default-clause-tried
returns-in_default-clause-tried g c = tried_not_told (g.S.Stepper.stands c.args.engine.now) c.args.slot.now c.args.text.now.items c.requires.fits c.in_default.not-Waiting

pub go_on-moved-requires-clause-busy : goal.go_on-moved-requires-clause-busy
go_on-moved-requires-clause-busy g c = waiting_fits _ _ c.in-Waiting.is c.requires.fits

pub returns-in_err-tell_later-clause-lost : goal.returns-in_err-tell_later-clause-lost
returns-in_err-tell_later-clause-lost g c = lost_so c.from_residual.result (went_lost (g.S.Stepper.stands c.args.engine.now) c.args.slot.now.session c.go_on-moved.result c.go_on-moved.new.session c.go_on-moved.ensures.went)

pub returns-in_err-tell_later-clause-fits : goal.returns-in_err-tell_later-clause-fits
returns-in_err-tell_later-clause-fits g c = fits_kept c.tell_later.new.slot c.go_on-moved.new.session c.go_on-moved.result.came _ _ c.tell_later.ensures.session c.tell_later.ensures.line waiting_not waiting_not c.go_on-moved.ensures.idle

pub returns-clause-tried : goal.returns-clause-tried
returns-clause-tried g c = tried_told (g.S.Stepper.stands c.args.engine.now) c.args.slot.now c.args.text.now.items c.requires.fits c.go_on-moved.new.session c.tell_later.new.slot c.tell_later.new.text.items c.tell_later.ensures.session
    c.go_on-moved.result c.in-Waiting.is c.tell_later.ensures.line c.go_on-moved.ensures.number c.in_ok-tell_later.ensures.told c.go_on-moved.ensures.went

pub returns-clause-fits : goal.returns-clause-fits
returns-clause-fits g c = fits_kept c.tell_later.new.slot c.go_on-moved.new.session c.go_on-moved.result.came _ _ c.tell_later.ensures.session c.tell_later.ensures.line waiting_not waiting_not c.go_on-moved.ensures.idle
