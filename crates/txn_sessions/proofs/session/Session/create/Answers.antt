use Rattle.txn_sessions.proofs.session.Session.create.Goals as goal

pub returns-in-Ok-clause-within : goal.returns-in-Ok-clause-within
returns-in-Ok-clause-within c = λ n h. c.ask.ensures.within n h.stands tt
