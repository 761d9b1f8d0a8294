-- Those in the way of the wants before this one.
use Rattle.lock_manager.specs.Table.{locks_of}
use Rattle.lock_manager.proofs.Ways.{AreMetBefore}
use Rattle.lock_manager.proofs.table.in_the_way.Given as goal

abbrev pub invariant-loop-want : goal.invariant-loop-want
invariant-loop-want l = AreMetBefore (locks_of l.parts) l.session l.wants l.want-index l.sessions
