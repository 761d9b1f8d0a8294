use Rattle.std.proofs.Common.{true, false}
use mathlib.Core.Path.{sym, subst}
use Rattle.txn_machine.specs.Answers as answer
use Rattle.script_law.specs.Sessions.{refused_so}
use Rattle.statement_law.specs.Statements.{the_works}
use Rattle.task_parts.specs.declared.turn.Told.TheVariants.{Before}
use Rattle.txn_sessions.proofs.Works.{owing_first, no_names}
use Rattle.statement_tasks.specs.Tasks.{mode_of, left_when}
use Rattle.txn_sessions.specs.Left.{frame_in, runs_as, pay_follows}
use Rattle.txn_sessions.specs.Sessions.{stands, Comes}
use Rattle.txn_sessions.proofs.session.Session.unpaid.Goals as goal

pub returns-in-Ok-clause-comes : goal.returns-in-Ok-clause-comes
returns-in-Ok-clause-comes c =
    let m = c.args.self.now.standing.mode in
    let st = stands c.args.self.now in
    let o = c.args.owing in
    let first = owing_first o c.requires.owing in
    let told_is = c.in-Ok.ensures.told first.0 first.1 first.2 in (
      true,
      subst (λ ds. Comes c.refuse.new.self (pay_follows m st (mode_of o.task) ds (λ n. runs_as m st (mode_of o.task) (left_when (Before o.before) o.task) n) o.made (answer.Refused c.args.why) true)) (sym first.2)
          (subst (λ r. Comes c.refuse.new.self (refused_so the_works st.copy (mode_of o.task) (frame_in m st) o.made r c.args.why)) told_is (c.refuse.ensures.comes (mode_of o.task))),
    )

pub returns-in-Err-clause-comes : goal.returns-in-Err-clause-comes
returns-in-Err-clause-comes c =
    let m = c.args.self.now.standing.mode in
    let st = stands c.args.self.now in
    let o = c.args.owing in
    let first = owing_first o c.requires.owing in (
      false,
      subst (λ ds. Comes c.back.new.self (pay_follows m st (mode_of o.task) ds (λ n. runs_as m st (mode_of o.task) (left_when (Before o.before) o.task) n) o.made (answer.Refused c.args.why) false)) (sym first.2)
          (subst (λ t. Comes c.back.new.self t) (no_names m st (mode_of o.task) o.made first.0 c.args.why c.in-Err.ensures.lacking) c.back.ensures.comes),
    )
