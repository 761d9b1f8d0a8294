use Rattle.std.proofs.Common.{subst}
use Rattle.std.proofs.lemmas.Result.{on_ok_weaker}
use Rattle.image_views.specs.Compared.{IsFound}
use Rattle.image_opening.proofs.views.checked.Goals as goal

pub returns-in-Ok-Same-clause-fine : goal.returns-in-Ok-Same-clause-fine
returns-in-Ok-Same-clause-fine c =
    on_ok_weaker c.within.result (λ fits contents can.
    let found = subst (IsFound contents) c.in-Ok-Same.field-0-is (c.in-Ok-Same.ensures contents can) in
    record { in_range = found.0; within = fits; fresh_at = found.1 }) c.within.ensures.fits
