use Rattle.std.proofs.Common.{arith}
use Rattle.txn_sessions.proofs.session.Session.ghost_answered.Goals as goal

pub returns-in-Ok-clause-within : goal.returns-in-Ok-clause-within
returns-in-Ok-clause-within c = λ n h le. c.pay.ensures.within n h (omega (arith, le))

pub returns-in-Err-clause-within : goal.returns-in-Err-clause-within
returns-in-Err-clause-within c = λ n h le. c.unpaid.ensures.within n h
