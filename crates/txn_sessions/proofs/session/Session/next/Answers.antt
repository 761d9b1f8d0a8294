use Rattle.txn_sessions.specs.Within.{LineWithin, StageWithin}
use mathlib.Core.Path.{sym, subst, ◌∙◌}
use Rattle.txn_book.specs.Acts.{act_of, answer_of}
use Rattle.script_law.specs.RunLines as lines
use Rattle.txn_sessions.specs.Fits.{IsOf, IsAnswered}
use Rattle.txn_sessions.specs.Sessions.{stands, left_of}
use Rattle.txn_sessions.proofs.Answering.{own_of}
use Rattle.txn_sessions.proofs.session.Session.next.Goals as goal

pub answered-requires-clause-answer : goal.answered-requires-clause-answer
answered-requires-clause-answer c =
    let asked = c.in-Under.asked in
    let st = stands c.args.self.now in
    let said = answer_of c.args.answer in
    subst (λ s. IsOf s said) (sym c.into_stage.ensures)
    (own_of c.args.self.now.standing.mode st (act_of asked.step.act) asked.stage said asked.fitting
    (subst (λ line. IsAnswered (lines.act_of (left_of st line)) said) (sym c.replace.ensures.value ∙ c.in-Under.is) c.requires.answered))

pub returns-clause-within : goal.returns-clause-within
returns-clause-within c = λ n h. c.answered.ensures.within n h.stands (subst (StageWithin n c.args.self.now.standing.kept) (sym c.into_stage.ensures) (subst (LineWithin n c.args.self.now.standing.kept) (sym c.replace.ensures.value ∙ c.in-Under.is) h.line))

pub returns-clause-refused : goal.returns-clause-refused
returns-clause-refused c = λ n h r. c.answered.ensures.refused n h.stands (subst (StageWithin n c.args.self.now.standing.kept) (sym c.into_stage.ensures) (subst (LineWithin n c.args.self.now.standing.kept) (sym c.replace.ensures.value ∙ c.in-Under.is) h.line)) r
