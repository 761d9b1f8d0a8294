use Rattle.std.proofs.Common.{sym, ◌∙◌}
use Rattle.session_table.proofs.Ending.{inside_told, outside_told, ended_as}
use Rattle.session_table.proofs.leaving.leave_idle.Goals as goal

pub returns-in-Some : goal.returns-in-Some
returns-in-Some g c = inside_told c.args.slot.now (g.S.Stepper.stands c.args.engine.now) (ended_as (g.S.Stepper.stands c.args.engine.now) _ _ c.number.ensures c.end_open.ensures) _ c.requires.line c.requires.fits (sym c.mode.ensures ∙ c.in-Some.is)

pub returns-in-None : goal.returns-in-None
returns-in-None g c = outside_told c.args.slot.now (g.S.Stepper.stands c.args.engine.now) c.requires.line c.requires.fits (sym c.mode.ensures ∙ c.in-None.is)
