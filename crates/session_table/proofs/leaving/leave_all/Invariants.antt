use Rattle.session_table.proofs.Ending.{LeftKnown}
use Rattle.session_table.proofs.leaving.leave_all.Given as goal

-- what has left is the front of all
abbrev pub invariant-loop-slot : goal.invariant-loop-slot
invariant-loop-slot g l = LeftKnown (g.S.Stepper.stands l.fn.engine) l.slots (g.S.Stepper.stands l.engine) l.slot-index
