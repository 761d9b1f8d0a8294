use Rattle.txn_sessions.proofs.session.Session.back.Goals as goal

pub returns-in-Some-clause-within : goal.returns-in-Some-clause-within
returns-in-Some-clause-within c = λ n h. c.take_back.ensures.within n h tt

pub returns-in-None-clause-within : goal.returns-in-None-clause-within
returns-in-None-clause-within c = λ n h. c.take_back-in-None.ensures.within n h tt
