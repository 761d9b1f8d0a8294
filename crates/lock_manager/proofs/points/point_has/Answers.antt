use Rattle.std.proofs.Common.{List, ℕ, sym, subst, ◌∙◌}
use Rattle.std.specs.FinMap.{get}
use Rattle.lock_manager.specs.Points.{HasAt}
use Rattle.lock_manager.proofs.Keys.{true_false}
use Rattle.lock_manager.proofs.HeldKeys.{held_to, held_back}
use Rattle.lock_manager.proofs.points.point_has.Goals as goal

pub returns-then-is_point : goal.returns-then-is_point
returns-then-is_point c =
    let m = c.args.points.now.entries in
    let want = c.args.want.now in (
      λ t. held_back m want (c.is_point.ensures.0 c.if-is_point.true) (subst (λ (low : List ℕ). HasAt (get m (want.index, low)) want.mode) c.as_slice.ensures (c.has_at.ensures.0 t)),
      λ h. c.has_at.ensures.1 (subst (λ (low : List ℕ). HasAt (get m (want.index, low)) want.mode) (sym c.as_slice.ensures) (held_to m want h).1),
    )

pub returns-else-is_point : goal.returns-else-is_point
returns-else-is_point c = (
  λ t. true_false (sym t ∙ c.if-is_point.false),
  λ h. c.is_point.ensures.1 (held_to c.args.points.now.entries c.args.want.now h).0,
)
