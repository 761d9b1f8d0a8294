use Rattle.txn_sessions.proofs.session.Session.start_return.Goals as goal

pub returns-in-Some-clause-within : goal.returns-in-Some-clause-within
returns-in-Some-clause-within c = λ n h. c.take_back.ensures.within n h.stands (c.in-Some.ensures.within n h.stands)
