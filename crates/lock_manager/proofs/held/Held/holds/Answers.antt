use Rattle.std.proofs.Common.{◌++◌, ap, ◌∙◌}
use Rattle.std.specs.FinMap.{entries}
use Rattle.lock_manager.specs.Order.{HeldLocks}
use Rattle.lock_manager.specs.Points.{points_of}
use Rattle.lock_manager.specs.Table.{Covers}
use Rattle.lock_manager.proofs.Searches.{either_right}
use Rattle.lock_manager.proofs.held.Held.holds.Goals as goal

pub returns-else-point_covers : goal.returns-else-point_covers
returns-else-point_covers c =
    either_right (Covers c.args.index c.args.key.now c.args.mode) (points_of (entries c.self.inside.points.entries)) c.deref.result.now c.args.self.now.locks c.point_covers.result c.range_covers.result
    ((λ i. points_of (entries c.self.inside.points.entries) ++ c.deref.ensures.value i) ∙ ap (λ (k : HeldLocks). k.locks) c.self.view_is)
    c.point_covers.ensures c.if-point_covers.false c.range_covers.ensures
