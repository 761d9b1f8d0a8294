use Rattle.txn_sessions.specs.Within.{LineWithin}
use Rattle.script_law.specs.Programs as programs
use mathlib.Core.Path.{sym, ap, subst}
use Rattle.txn_sessions.proofs.session.Session.start_save.Goals as goal

pub returns-in_err-save-clause-within : goal.returns-in_err-save-clause-within
returns-in_err-save-clause-within c = λ n h. record { stands = c.save.ensures.within n h.stands; line = subst (λ k. LineWithin n k c.args.self.now.line) (sym (ap (λ (s : programs.Standing). s.kept) c.in_err-save.ensures.err)) h.line }

pub returns-clause-within : goal.returns-clause-within
returns-clause-within c = λ n h. c.tell.ensures.within n (c.save.ensures.within n h.stands)
