use Rattle.std.proofs.Common.{subst}
use Rattle.core_pays.specs.Keeping.{IsOwedOfLatest}
use Rattle.core_pays.proofs.recording.undo_in.Goals as goal

pub returns-in-Some-clause-undone : goal.returns-in-Some-clause-undone
returns-in-Some-clause-undone c = λ s l i a owes is.
    let here = subst (IsOwedOfLatest s l i) c.in-Some.is owes in
    c.undo_put.ensures.room s l i a here.0 here.1 here.2 is here.3

pub returns-in-None-clause-undone : goal.returns-in-None-clause-undone
returns-in-None-clause-undone c = λ s l i a owes is.
    let here = subst (IsOwedOfLatest s l i) c.in-None.is owes in
    c.undo_pay.ensures.room s l i a here.0 here.1 is
