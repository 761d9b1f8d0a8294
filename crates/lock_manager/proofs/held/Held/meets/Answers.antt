use Rattle.std.proofs.Common.{◌++◌, ap, ◌∙◌}
use Rattle.txn_machine.specs.Locks.{Conflict}
use Rattle.std.specs.FinMap.{entries}
use Rattle.lock_manager.specs.Order.{HeldLocks}
use Rattle.lock_manager.specs.Points.{points_of}
use Rattle.lock_manager.proofs.Searches.{either_right}
use Rattle.lock_manager.proofs.held.Held.meets.Goals as goal

pub returns-else-point_meets : goal.returns-else-point_meets
returns-else-point_meets c =
    either_right (λ lock. Conflict lock c.args.want.now) (points_of (entries c.self.inside.points.entries)) c.deref.result.now c.args.self.now.locks c.point_meets.result c.range_meets.result
    ((λ i. points_of (entries c.self.inside.points.entries) ++ c.deref.ensures.value i) ∙ ap (λ (k : HeldLocks). k.locks) c.self.view_is)
    c.point_meets.ensures c.if-point_meets.false c.range_meets.ensures
