use Rattle.std.proofs.Common.{ℕ, List, length, sym, ◌∙◌, ap, subst}
use Rattle.std.proofs.lemmas.Result.{err_from_is_err_and}
use Rattle.image_finding.specs.Maps.{IsLow, AreLeaves}
use Rattle.image_finding.proofs.pages.tested_map.Goals as goal

pub returns-in_err-page-clause-refused : goal.returns-in_err-page-clause-refused
returns-in_err-page-clause-refused g c told is stands = let p = err_from_is_err_and c.from_residual.result c.from_residual.ensures.1 in rw (p.1, p.2) tt

pub returns-in-Ok-clause-low : goal.returns-in-Ok-clause-low
returns-in-Ok-clause-low g c = subst IsLow c.deref.ensures.value c.in-Ok.ensures.low

pub returns-in-Ok-clause-leaves : goal.returns-in-Ok-clause-leaves
returns-in-Ok-clause-leaves g c told =
    subst (λ (b : List ℕ). AreLeaves c.args.header.now.area_bytes c.args.header.now.pages b (g.D.Disk.seen c.args.disk.now)) c.deref.ensures.value (c.in-Ok.ensures.leaves told)

pub returns-in-Ok-clause-stands : goal.returns-in-Ok-clause-stands
returns-in-Ok-clause-stands g c told is stands = c.in-Ok.ensures.stands told (c.deref.ensures.value ∙ is) stands

pub returns-in-Err-clause-refused : goal.returns-in-Err-clause-refused
returns-in-Err-clause-refused g c told is stands = c.in-Err.ensures.refused told (c.deref.ensures.value ∙ is) stands

pub returns-in-Ok-clause-whole : goal.returns-in-Ok-clause-whole
returns-in-Ok-clause-whole g c = ap length c.from_vec.ensures ∙ (sym (ap length c.deref.ensures.value) ∙ c.deref.ensures.len) ∙ c.requires.whole
