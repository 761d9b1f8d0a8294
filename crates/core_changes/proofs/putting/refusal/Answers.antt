use Rattle.std.proofs.Common.{IsTrue, false, refl}
use Rattle.core_changes.proofs.putting.refusal.Goals as goal

not_true : IsTrue false → ⊥
not_true t = absurd cc

pub returns-then-not-fits-clause-some : goal.returns-then-not-fits-clause-some
returns-then-not-fits-clause-some g c = (refl, (c.open_of.result.now, c.open_of.ensures, (refl, λ le. not_true (c.if-not-fits.ensures.1 le))))
