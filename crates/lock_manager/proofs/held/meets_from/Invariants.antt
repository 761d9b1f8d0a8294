-- No lock before this one conflicts.
use Rattle.txn_machine.specs.Locks.{Conflict}
use Rattle.lock_manager.specs.Order.{HasNoneBefore}
use Rattle.lock_manager.proofs.held.meets_from.Given as goal

abbrev pub invariant-loop-at : goal.invariant-loop-at
invariant-loop-at l = HasNoneBefore (λ lock. Conflict lock l.want) l.locks l.at
