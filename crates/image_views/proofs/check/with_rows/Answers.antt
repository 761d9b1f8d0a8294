use Rattle.std.proofs.Common.{subst}
use Rattle.iv_meaning.specs.Objects.{view_tree}
use Rattle.image_views.specs.Compared.{IsFoundBelow}
use Rattle.image_views.proofs.Places.{others_more}
use Rattle.image_views.proofs.check.with_rows.Goals as goal

pub returns-in-Differs : goal.returns-in-Differs
returns-in-Differs g c = λ x can f h.
    others_more x (view_tree c.args.view.now) c.args.rows.now f c.in-Differs.wrong (subst (IsFoundBelow x c.args.view.now.number) c.in-Differs.is h)
