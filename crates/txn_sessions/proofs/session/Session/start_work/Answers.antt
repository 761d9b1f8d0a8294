use Rattle.std.proofs.Common.{arith}
use Rattle.txn_sessions.proofs.session.Session.start_work.Goals as goal

pub returns-in-Ok-clause-within : goal.returns-in-Ok-clause-within
returns-in-Ok-clause-within c = λ n h. let k = h.stands.kept in c.take.ensures.within n h.stands (omega (arith, k))

pub returns-in-Err-clause-within : goal.returns-in-Err-clause-within
returns-in-Err-clause-within c = λ n h. c.back.ensures.within n h.stands
