use mathlib.Core.Path.{◌∙◌}
use Rattle.task_parts.specs.declared.turn.Told.TheVariants.{Before}
use Rattle.statement_tasks.specs.Tasks.{mode_of, left_when}
use Rattle.txn_sessions.specs.Left.{runs_as}
use Rattle.txn_sessions.specs.Sessions.{stands}
use Rattle.txn_sessions.proofs.Works.{paid_one, owing_some}
use Rattle.txn_sessions.proofs.session.Session.paid.Goals as goal

pub returns-clause-comes : goal.returns-clause-comes
returns-clause-comes c = λ left.
    let m = c.args.self.now.standing.mode in
    let st = stands c.args.self.now in
    let o = c.args.owing in
    let came = c.owe.ensures.comes in
    (came.0, (came.1.0 ∙ paid_one m st (mode_of o.task) (λ n. runs_as m st (mode_of o.task) (left_when (Before o.before) o.task) n) o.owed o.paid o.made left came.0 (owing_some o c.requires.owing), came.1.1))
