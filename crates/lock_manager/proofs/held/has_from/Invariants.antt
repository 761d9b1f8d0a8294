-- No lock before this one is the same.
use Rattle.std.proofs.Common.{◌≡◌}
use Rattle.lock_manager.specs.Order.{HasNoneBefore}
use Rattle.lock_manager.proofs.held.has_from.Given as goal

abbrev pub invariant-loop-at : goal.invariant-loop-at
invariant-loop-at l = HasNoneBefore (λ lock. lock ≡ l.want) l.locks l.at
