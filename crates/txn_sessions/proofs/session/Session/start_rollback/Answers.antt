use Rattle.txn_sessions.proofs.session.Session.start_rollback.Goals as goal

pub returns-in-None-clause-within : goal.returns-in-None-clause-within
returns-in-None-clause-within c = λ n h. c.take_back.ensures.within n h.stands tt
