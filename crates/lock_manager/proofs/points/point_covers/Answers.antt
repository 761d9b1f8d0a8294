use Rattle.lock_manager.proofs.HeldKeys.{covers_is}
use Rattle.lock_manager.proofs.points.point_covers.Goals as goal

pub returns : goal.returns
returns c =
    let is = covers_is c.args.points.now.entries c.args.index c.args.key.now c.args.mode in
    (λ t. is.0 (c.has_at.ensures.0 t), λ h. c.has_at.ensures.1 (is.1 h))
