use Rattle.std.proofs.Common.{[], ◌∷◌, ◌++◌, List, subst, ap}
use Rattle.std.specs.FinMap.{entries}
use Rattle.iv_types.specs.declared.lock.Want.{Want}
use Rattle.lock_manager.specs.Order.{HeldLocks}
use Rattle.lock_manager.specs.Points.{points_of}
use Rattle.lock_manager.specs.Table.{HasGained}
use Rattle.lock_manager.proofs.Gains.{gained_left, gained_right}
use Rattle.lock_manager.proofs.held.Held.add.Goals as goal

pub returns-then-is_point-clause-locks : goal.returns-then-is_point-clause-locks
returns-then-is_point-clause-locks c =
    let points = points_of (entries c.self.inside.points.entries) in
    let ranges = c.self.inside.ranges.items in
    let new = points_of (entries c.add_point.new.points.entries) in
    subst (λ (old : List Want). HasGained old (c.args.want ∷ []) (new ++ ranges)) (ap (λ (k : HeldLocks). k.locks) c.self.view_is)
    (gained_left (c.args.want ∷ []) points ranges new c.add_point.ensures.gained)

pub returns-else-is_point-clause-locks : goal.returns-else-is_point-clause-locks
returns-else-is_point-clause-locks c =
    let points = points_of (entries c.self.inside.points.entries) in
    let ranges = c.self.inside.ranges.items in
    let new = c.put.new.locks.items in
    subst (λ (old : List Want). HasGained old (c.args.want ∷ []) (points ++ new)) (ap (λ (k : HeldLocks). k.locks) c.self.view_is)
    (gained_right (c.args.want ∷ []) points ranges new c.put.ensures.gained)
