use Rattle.txn_sessions.specs.Within.{AfterWithin}
use mathlib.Core.Path.{subst}
use Rattle.txn_sessions.proofs.session.Session.last.Goals as goal

pub returns-in-Says-clause-within : goal.returns-in-Says-clause-within
returns-in-Says-clause-within c = λ n h a. c.say.ensures.within n h

pub returns-in-Ends-clause-within : goal.returns-in-Ends-clause-within
returns-in-Ends-clause-within c = λ n h a. c.ask.ensures.within n h tt

pub returns-in-Returns-clause-within : goal.returns-in-Returns-clause-within
returns-in-Returns-clause-within c = λ n h a. c.tell.ensures.within n (c.return_to.ensures.within n h (subst (AfterWithin n) c.in-Returns.is a))
