use Rattle.std.proofs.Common.{◌≡◌}
use mathlib.Core.Path.{sym, subst}
use Rattle.txn_machine.specs.Answers as answer
use Rattle.iv_meaning.specs.Objects.{schema_of}
use Rattle.txn_sessions.specs.Answers.{WasDefs}
use Rattle.txn_sessions.specs.Left.{learn_follows}
use Rattle.txn_sessions.specs.Sessions.{stands, Comes}
use Rattle.txn_sessions.proofs.session.Session.learned.Goals as goal

pub returns-in-Alone-clause-comes : goal.returns-in-Alone-clause-comes
returns-in-Alone-clause-comes c = λ said is.
    let m = c.args.self.now.standing.mode in
    let st = stands c.args.self.now in
    let said_is : said ≡ answer.Defs (schema_of c.in-Ok.catalog) = subst (λ defs. WasDefs defs said) c.in-Ok.is is in
    let came = c.begin_on.ensures.comes c.args.number in (
      came.0,
      subst (λ x. Comes c.begin_on.new.self (learn_follows m st c.args.opening c.args.number x came.0)) (sym said_is)
          (subst (λ o. Comes c.begin_on.new.self (learn_follows m st o c.args.number (answer.Defs (schema_of c.in-Ok.catalog)) came.0)) (sym c.in-Alone.is) came.1),
    )
