-- If there is a conflict, it is still to come.
use Rattle.std.proofs.Common.{length}
use Rattle.std.specs.FinMap.{entries}
use Rattle.lock_manager.proofs.Walks.{IsWalking, todo, place_of}
use Rattle.lock_manager.proofs.points.point_meets.Given as goal

abbrev pub invariant-loop-next : goal.invariant-loop-next
invariant-loop-next l = IsWalking l.want l.points.entries (place_of l.next)

abbrev pub decreases-loop-next : goal.decreases-loop-next
decreases-loop-next l = length (todo (entries l.points.entries) (place_of l.next))
