use Rattle.std.proofs.Common.{◌≡◌, ◌++◌, ap, subst, ◌∙◌, refl}
use Rattle.std.specs.List.{Contains}
use Rattle.iv_types.specs.declared.lock.Want.{Want}
use Rattle.std.specs.FinMap.{entries}
use Rattle.lock_manager.specs.Order.{HeldLocks}
use Rattle.lock_manager.specs.Points.{points_of}
use Rattle.lock_manager.proofs.Searches.{either_right, same_held}
use Rattle.lock_manager.proofs.held.Held.has.Goals as goal

pub returns-else-point_has : goal.returns-else-point_has
returns-else-point_has c =
    let want = c.args.want.now in
    let locks = c.args.self.now.locks in
    let either = either_right (λ (lock : Want). lock ≡ want) (points_of (entries c.self.inside.points.entries)) c.deref.result.now locks c.point_has.result c.has.result
    ((λ i. points_of (entries c.self.inside.points.entries) ++ c.deref.ensures.value i) ∙ ap (λ (k : HeldLocks). k.locks) c.self.view_is)
    (λ t. (want, c.point_has.ensures.0 t, refl), λ (lock, held, same). c.point_has.ensures.1 (subst (Contains (points_of (entries c.self.inside.points.entries))) same held))
    c.if-point_has.false c.has.ensures in
    (λ t. same_held want locks (either.0 t), λ h. either.1 (want, h, refl))
