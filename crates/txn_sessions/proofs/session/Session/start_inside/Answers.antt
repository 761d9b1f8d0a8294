use Rattle.txn_sessions.proofs.session.Session.start_inside.Goals as goal

pub returns-in-Commit-clause-within : goal.returns-in-Commit-clause-within
returns-in-Commit-clause-within c = λ n h. c.ask.ensures.within n h.stands tt
