use Rattle.txn_sessions.proofs.Counted.{after_more}
use Rattle.txn_sessions.proofs.Kept.{more}
use Rattle.txn_sessions.specs.Within.{StageWithin}
use mathlib.Core.Path.{subst}
use Rattle.std.proofs.Common.{◌≤◌, ◌+◌, arith}
use Rattle.std.proofs.Common.{true}
use Rattle.txn_book.specs.Acts.{answer_of}
use Rattle.txn_sessions.specs.declared.line.Stage.TheVariants as stage
use Rattle.txn_sessions.specs.Sessions.{stands}
use Rattle.txn_sessions.proofs.Answering.{answered_as, changed_refused}
use Rattle.txn_sessions.proofs.session.Session.answered.Goals as goal

pub returns-in-Undoing-clause-comes : goal.returns-in-Undoing-clause-comes
returns-in-Undoing-clause-comes c = λ a fit.
    answered_as c.args.self.now.standing.mode (stands c.args.self.now) c.undone-in-Undoing.new.self a c.args.stage (stage.Undoing c.in-Undoing.left c.in-Undoing.last) (answer_of c.args.answer) c.in-Undoing.is tt fit c.requires.answer
    (true, c.undone-in-Undoing.ensures.comes (answer_of c.args.answer) true c.undone.ensures)

pub returns-in-Ending-clause-comes : goal.returns-in-Ending-clause-comes
returns-in-Ending-clause-comes c = λ a fit.
    answered_as c.args.self.now.standing.mode (stands c.args.self.now) c.ended-in-Ending.new.self a c.args.stage (stage.Ending c.in-Ending.reply) (answer_of c.args.answer) c.in-Ending.is tt fit c.requires.answer
    (true, c.ended-in-Ending.ensures.comes (answer_of c.args.answer) true c.ended.ensures)

pub returns-in-Committing-clause-comes : goal.returns-in-Committing-clause-comes
returns-in-Committing-clause-comes c = λ a fit.
    answered_as c.args.self.now.standing.mode (stands c.args.self.now) c.committed-in-Committing.new.self a c.args.stage (stage.Committing c.in-Committing.replies) (answer_of c.args.answer) c.in-Committing.is tt fit c.requires.answer
    (true, c.committed-in-Committing.ensures.comes (answer_of c.args.answer) true c.committed.ensures)

pub returns-in-Creating-clause-comes : goal.returns-in-Creating-clause-comes
returns-in-Creating-clause-comes c = λ a fit.
    answered_as c.args.self.now.standing.mode (stands c.args.self.now) c.created.new.self a c.args.stage (stage.Creating c.in-Creating.replies) (answer_of c.args.answer) c.in-Creating.is tt fit c.requires.answer
    (true, c.created.ensures.comes (answer_of c.args.answer) true c.create_told.ensures)

pub returns-in-Opening-clause-within : goal.returns-in-Opening-clause-within
returns-in-Opening-clause-within c = λ n h at. let s = more n c.args.self.now.standing h in c.opened.ensures.within (n + 1) s

pub returns-in-Learning-clause-within : goal.returns-in-Learning-clause-within
returns-in-Learning-clause-within c = λ n h at. let s = more n c.args.self.now.standing h in c.learned.ensures.within (n + 1) s

pub returns-in-Ending-clause-within : goal.returns-in-Ending-clause-within
returns-in-Ending-clause-within c = λ n h at. let s = more n c.args.self.now.standing h in c.ended-in-Ending.ensures.within (n + 1) s

pub returns-in-Committing-clause-within : goal.returns-in-Committing-clause-within
returns-in-Committing-clause-within c = λ n h at. let s = more n c.args.self.now.standing h in c.committed-in-Committing.ensures.within (n + 1) s

pub returns-in-Creating-clause-within : goal.returns-in-Creating-clause-within
returns-in-Creating-clause-within c = λ n h at. let s = more n c.args.self.now.standing h in c.created.ensures.within (n + 1) s

pub returns-in-Fetching-clause-within : goal.returns-in-Fetching-clause-within
returns-in-Fetching-clause-within c = λ n h at. let s = more n c.args.self.now.standing h in let a = subst (StageWithin n c.args.self.now.standing.kept) c.in-Fetching.is at in let le : c.in-Fetching.made + c.args.self.now.standing.kept ≤ n = a in c.fetched.ensures.within (n + 1) s (omega (arith, le))

pub returns-in-Changing-clause-within : goal.returns-in-Changing-clause-within
returns-in-Changing-clause-within c = λ n h at. let s = more n c.args.self.now.standing h in let a = subst (StageWithin n c.args.self.now.standing.kept) c.in-Changing.is at in let le : c.in-Changing.made + c.args.self.now.standing.kept ≤ n = a in c.changed-in-Changing.ensures.within (n + 1) s (omega (arith, le))

pub returns-in-Paying-clause-within : goal.returns-in-Paying-clause-within
returns-in-Paying-clause-within c = λ n h at. let s = more n c.args.self.now.standing h in let a = subst (StageWithin n c.args.self.now.standing.kept) c.in-Paying.is at in let le : c.in-Paying.owing.made + c.args.self.now.standing.kept ≤ n = a in c.pay_answered.ensures.within (n + 1) s (omega (arith, le))

pub returns-in-Lacking-clause-within : goal.returns-in-Lacking-clause-within
returns-in-Lacking-clause-within c = λ n h at. let s = more n c.args.self.now.standing h in let a = subst (StageWithin n c.args.self.now.standing.kept) c.in-Lacking.is at in let le : c.in-Lacking.owing.made + c.args.self.now.standing.kept ≤ n = a in c.ghost_answered.ensures.within (n + 1) s (omega (arith, le))

pub returns-in-Undoing-clause-within : goal.returns-in-Undoing-clause-within
returns-in-Undoing-clause-within c = λ n h at. let s = more n c.args.self.now.standing h in let a = subst (StageWithin n c.args.self.now.standing.kept) c.in-Undoing.is at in c.undone-in-Undoing.ensures.within (n + 1) s (after_more n c.in-Undoing.last a)

pub returns-in-Opening-clause-refused : goal.returns-in-Opening-clause-refused
returns-in-Opening-clause-refused c = λ n h at r. c.opened.ensures.within n h

pub returns-in-Learning-clause-refused : goal.returns-in-Learning-clause-refused
returns-in-Learning-clause-refused c = λ n h at r. c.learned.ensures.within n h

pub returns-in-Ending-clause-refused : goal.returns-in-Ending-clause-refused
returns-in-Ending-clause-refused c = λ n h at r. c.ended-in-Ending.ensures.within n h

pub returns-in-Committing-clause-refused : goal.returns-in-Committing-clause-refused
returns-in-Committing-clause-refused c = λ n h at r. c.committed-in-Committing.ensures.within n h

pub returns-in-Creating-clause-refused : goal.returns-in-Creating-clause-refused
returns-in-Creating-clause-refused c = λ n h at r. c.created.ensures.within n h

pub returns-in-Fetching-clause-refused : goal.returns-in-Fetching-clause-refused
returns-in-Fetching-clause-refused c = λ n h at r. c.fetched.ensures.within n h (subst (StageWithin n c.args.self.now.standing.kept) c.in-Fetching.is at)

pub returns-in-Changing-clause-refused : goal.returns-in-Changing-clause-refused
returns-in-Changing-clause-refused c = λ n h at r. changed_refused c.changed.result (answer_of c.args.answer) c.changed.ensures r (c.changed-in-Changing.ensures.refused n h)

pub returns-in-Paying-clause-refused : goal.returns-in-Paying-clause-refused
returns-in-Paying-clause-refused c = λ n h at r. c.pay_answered.ensures.refused n h r

pub returns-in-Lacking-clause-refused : goal.returns-in-Lacking-clause-refused
returns-in-Lacking-clause-refused c = λ n h at r. c.ghost_answered.ensures.within n h (subst (StageWithin n c.args.self.now.standing.kept) c.in-Lacking.is at)

pub returns-in-Undoing-clause-refused : goal.returns-in-Undoing-clause-refused
returns-in-Undoing-clause-refused c = λ n h at r. c.undone-in-Undoing.ensures.within n h (subst (StageWithin n c.args.self.now.standing.kept) c.in-Undoing.is at)
