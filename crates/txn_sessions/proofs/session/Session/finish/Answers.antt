use Rattle.std.proofs.Common.{◌≤◌, ◌+◌, arith}
use Rattle.txn_sessions.proofs.session.Session.finish.Goals as goal

pub returns-in-None-clause-within : goal.returns-in-None-clause-within
returns-in-None-clause-within c = λ n h le. c.ask.ensures.within n h tt

pub returns-in-Some-clause-within : goal.returns-in-Some-clause-within
returns-in-Some-clause-within c = λ n h le. let k : c.args.self.now.standing.kept + c.args.made ≤ n = omega (arith, le) in c.tell.ensures.within n (record { kept = k; saved = h.saved })
