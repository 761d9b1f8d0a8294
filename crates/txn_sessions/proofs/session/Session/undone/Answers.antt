use Rattle.txn_sessions.proofs.session.Session.undone.Goals as goal

pub returns-in-Err-clause-within : goal.returns-in-Err-clause-within
returns-in-Err-clause-within c = λ n h a. c.fail.ensures.within n h
