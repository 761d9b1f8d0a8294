-- No lock before this one has the key.
use Rattle.lock_manager.specs.Order.{HasNoneBefore}
use Rattle.lock_manager.specs.Table.{Covers}
use Rattle.lock_manager.proofs.held.covers_from.Given as goal

abbrev pub invariant-loop-at : goal.invariant-loop-at
invariant-loop-at l = HasNoneBefore (Covers l.index l.key l.mode) l.locks l.at
