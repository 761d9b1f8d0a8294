use Rattle.std.proofs.Common.{subst}
use Rattle.iv_meaning.specs.Objects.{view_tree}
use Rattle.image_views.specs.Compared.{IsEvaluated}
use Rattle.image_views.proofs.check.with_view.Goals as goal

pub with_rows-requires-after_bounds : goal.with_rows-requires-after_bounds
with_rows-requires-after_bounds g c κs within =
    (c.requires.0, c.requires.1, subst (IsEvaluated c.requires.0 (view_tree c.args.view.now)) c.in-Some.is (c.in_ok-fresh_rows.ensures c.requires.0 c.requires.1))
