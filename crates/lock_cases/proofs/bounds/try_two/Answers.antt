use mathlib.Core.Path.{sym, subst}
use Rattle.escrow_bounds.specs.Column.{IsBeforeLatest}
use Rattle.lock_cases.proofs.bounds.try_two.Goals as goal

pub take_back-requires-clause-latest : goal.take_back-requires-clause-latest
take_back-requires-clause-latest c = subst (IsBeforeLatest c.in-Ok.before) (sym c.in_ok-try_one-in-Ok.ensures.part) c.in-Ok.ensures.latest
