use Rattle.std.proofs.Common.{◌≡◌, true, IfErr}
use Rattle.txn_sessions.specs.Within.{IsWithin}
use mathlib.Core.Path.{sym, subst}
use Rattle.txn_machine.specs.Answers as answer
use Rattle.script_law.specs.Sessions.{refused_so}
use Rattle.statement_law.specs.Statements.{the_works}
use Rattle.statement_tasks.specs.Tasks.{mode_of}
use Rattle.txn_sessions.specs.declared.line.Stage.TheVariants as stage
use Rattle.txn_sessions.specs.Answers.{WasChanged}
use Rattle.txn_sessions.specs.Left.{frame_in, follows}
use Rattle.txn_sessions.specs.Sessions.{stands, Comes}
use Rattle.txn_sessions.proofs.session.Session.changed.Goals as goal

pub returns-in-Err-clause-comes : goal.returns-in-Err-clause-comes
returns-in-Err-clause-comes c = λ said is.
    let m = c.args.self.now.standing.mode in
    let st = stands c.args.self.now in
    let said_is : said ≡ answer.Refused c.in-Err.why = subst (λ change. WasChanged change said) c.in-Err.is is in (
      true,
      subst (λ x. Comes c.refuse.new.self (follows m st (stage.Changing c.args.task c.args.made) x true)) (sym said_is)
          (subst (λ r. Comes c.refuse.new.self (refused_so the_works st.copy (mode_of c.args.task) (frame_in m st) c.args.made r c.in-Err.why)) (c.told_plainly.ensures st.copy) (c.refuse.ensures.comes (mode_of c.args.task))),
    )

pub returns-in-Err-clause-within : goal.returns-in-Err-clause-within
returns-in-Err-clause-within c = λ n h le. c.refuse.ensures.within n h

pub returns-in-Ok-clause-refused : goal.returns-in-Ok-clause-refused
returns-in-Ok-clause-refused c = λ n h. subst (λ change. IfErr change (λ why. IsWithin n c.owe.new.self)) (sym c.in-Ok.is) tt

pub returns-in-Err-clause-refused : goal.returns-in-Err-clause-refused
returns-in-Err-clause-refused c = λ n h. subst (λ change. IfErr change (λ why. IsWithin n c.refuse.new.self)) (sym c.in-Err.is) (c.refuse.ensures.within n h)
