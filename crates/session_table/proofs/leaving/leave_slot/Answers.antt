use mathlib.Core.Logic.{inl, inr}
use Rattle.session_table.proofs.Ending.{stepping_told, waiting_told, ended_as, waited_as}
use Rattle.session_table.proofs.leaving.leave_slot.Goals as goal

pub returns-in-Stepping : goal.returns-in-Stepping
returns-in-Stepping g c = stepping_told c.args.slot.now (g.S.Stepper.stands c.args.engine.now) (ended_as (g.S.Stepper.stands c.args.engine.now) _ _ c.number.ensures c.end_open.ensures) c.in-Stepping.is

pub returns-in-Waiting : goal.returns-in-Waiting
returns-in-Waiting g c = waiting_told c.args.slot.now (g.S.Stepper.stands c.args.engine.now) (inl c.in-Waiting.is) (waited_as (g.S.Stepper.stands c.args.engine.now) _ _ c.number-in-Waiting.ensures c.leave_waiting.ensures)

pub returns-in-Held : goal.returns-in-Held
returns-in-Held g c = waiting_told c.args.slot.now (g.S.Stepper.stands c.args.engine.now) (inr c.in-Held.is) (waited_as (g.S.Stepper.stands c.args.engine.now) _ _ c.number-in-Held.ensures c.leave_waiting-in-Held.ensures)
