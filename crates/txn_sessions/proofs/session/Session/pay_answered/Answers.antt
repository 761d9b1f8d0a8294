use Rattle.std.proofs.Common.{arith}
use mathlib.Core.Path.{sym, subst}
use Rattle.txn_machine.specs.Acts as act
use Rattle.script_law.specs.Programs.{asks}
use Rattle.script_law.specs.RunLines as lines
use Rattle.txn_sessions.specs.Fits.{IsRefused}
use Rattle.txn_sessions.specs.Left.{owing_follows}
use Rattle.txn_sessions.specs.Sessions.{stands, Comes}
use Rattle.txn_sessions.proofs.session.Session.pay_answered.Goals as goal

pub returns-in-Done-clause-comes : goal.returns-in-Done-clause-comes
returns-in-Done-clause-comes c =
    let m = c.args.self.now.standing.mode in
    let st = stands c.args.self.now in
    let said = c.in-Done.ensures in
    let came = c.paid.ensures.comes said.0 in
    (came.0, subst (λ x. Comes c.paid.new.self (lines.next_of (asks act.Pay (owing_follows m st c.args.owing)) x came.0)) (sym said.1) came.1)

pub returns-in-NeedsGhost-clause-within : goal.returns-in-NeedsGhost-clause-within
returns-in-NeedsGhost-clause-within c = λ n h le. c.lack.ensures.within n h (omega (arith, le))

pub returns-in-Refused-clause-within : goal.returns-in-Refused-clause-within
returns-in-Refused-clause-within c = λ n h le. c.unpaid.ensures.within n h

pub returns-in-Done-clause-refused : goal.returns-in-Done-clause-refused
returns-in-Done-clause-refused c = λ n h r. absurd (subst IsRefused c.in-Done.ensures.1 r)

pub returns-in-NeedsGhost-clause-refused : goal.returns-in-NeedsGhost-clause-refused
returns-in-NeedsGhost-clause-refused c = λ n h r. absurd (subst IsRefused c.in-NeedsGhost.ensures r)

pub returns-in-Refused-clause-refused : goal.returns-in-Refused-clause-refused
returns-in-Refused-clause-refused c = λ n h r. c.unpaid.ensures.within n h
