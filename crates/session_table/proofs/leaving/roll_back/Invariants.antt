use Rattle.session_table.proofs.Ending.{TakenKnown}
use Rattle.session_table.proofs.leaving.roll_back.Given as goal

-- what was taken back is the front of what is to be
abbrev pub invariant-loop : goal.invariant-loop
invariant-loop g l = TakenKnown l.fn.session l.fn.kept (g.S.Stepper.stands l.fn.engine) (g.S.Stepper.stands l.engine) l.counter
