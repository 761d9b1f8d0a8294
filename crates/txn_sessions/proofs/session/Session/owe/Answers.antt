use Rattle.std.proofs.Common.{◌<◌, true, length, drop, arith}
use Rattle.std.proofs.lemmas.List.{length-drop}
use mathlib.Core.Path.{ap, ◌∙◌}
use Rattle.task_parts.specs.declared.turn.Told.TheVariants.{Before}
use Rattle.statement_tasks.specs.Tasks.{mode_of, left_when}
use Rattle.txn_sessions.specs.Left.{runs_as}
use Rattle.txn_sessions.specs.Sessions.{stands}
use Rattle.txn_sessions.proofs.Works.{pays_first}
use Rattle.txn_sessions.proofs.session.Session.owe.Goals as goal

pub returns-then-owing-as_slice-clause-comes : goal.returns-then-owing-as_slice-clause-comes
returns-then-owing-as_slice-clause-comes c =
    let m = c.args.self.now.standing.mode in
    let st = stands c.args.self.now in
    let o = c.args.owing in
    let some : 0 < length (drop o.paid o.owed) = omega (arith, length-drop o.paid o.owed, c.if-owing-as_slice.true, ap length c.as_slice.ensures) in
    (true, (c.ask.ensures.comes.0 ∙ pays_first m st (mode_of o.task) (λ n. runs_as m st (mode_of o.task) (left_when (Before o.before) o.task) n) (drop o.paid o.owed) o.made some, c.ask.ensures.comes.1))
