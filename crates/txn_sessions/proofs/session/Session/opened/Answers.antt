use Rattle.std.proofs.Common.{◌≡◌, length}
use mathlib.Core.Path.{sym, subst, ◌∙◌}
use Rattle.std.proofs.lemmas.List.{length-map}
use Rattle.txn_machine.specs.Answers as answer
use Rattle.iv_meaning.specs.Objects.{object_of}
use Rattle.txn_sessions.specs.declared.line.Opening.TheVariants as opening
use Rattle.txn_sessions.specs.Answers.{WasBegun}
use Rattle.txn_sessions.specs.Left.{open_follows}
use Rattle.txn_sessions.specs.Sessions.{stands, Comes}
use Rattle.txn_sessions.proofs.Works.{opened_as}
use Rattle.txn_sessions.proofs.session.Session.opened.Goals as goal

pub returns-in-Alone-clause-comes : goal.returns-in-Alone-clause-comes
returns-in-Alone-clause-comes c = λ said is.
    let m = c.args.self.now.standing.mode in
    let st = stands c.args.self.now in
    let said_is : said ≡ answer.Begun c.in-Ok.number c.in-Ok.defs = subst (λ begun. WasBegun begun said) c.in-Ok.is is in
    let same : c.in-Ok.defs ≡ length st.copy = c.if-defs-len.false ∙ (c.len.ensures ∙ sym (length-map c.args.self.now.standing.catalog object_of)) in
    let came = c.begin_alone.ensures.comes c.in-Ok.number in (
      came.0,
      subst (λ x. Comes c.begin_alone.new.self (open_follows m st c.args.opening x came.0)) (sym said_is)
          (subst (λ o. Comes c.begin_alone.new.self (open_follows m st o (answer.Begun c.in-Ok.number c.in-Ok.defs) came.0)) (sym c.in-Alone.is)
          (subst (λ t. Comes c.begin_alone.new.self t) (opened_as m st (opening.Alone c.in-Alone.statement) c.in-Ok.number c.in-Ok.defs came.0 same) came.1)),
    )

pub returns-then-defs-len-clause-within : goal.returns-then-defs-len-clause-within
returns-then-defs-len-clause-within c = λ n h. c.ask.ensures.within n h tt
