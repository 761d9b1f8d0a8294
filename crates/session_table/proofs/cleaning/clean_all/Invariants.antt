use Rattle.session_table.proofs.Removing.{RemovedKnown}
use Rattle.session_table.proofs.cleaning.clean_all.Given as goal

-- what is removed from here on is removed from there
abbrev pub invariant-loop-removed : goal.invariant-loop-removed
invariant-loop-removed g l = RemovedKnown (g.S.Stepper.stands l.fn.engine) (g.S.Stepper.stands l.engine) l.removed
