use Rattle.std.proofs.Common.{ℕ, List, sym, subst, ◌∙◌}
use Rattle.std.specs.Prelude.{IfOk, IfErr}
use Rattle.std.proofs.lemmas.Result.{IfOk-weaker}
use Rattle.txn_log.specs.Damaged.{FitsDevice}
use Rattle.image_finding.specs.Headers.{as_header}
use Rattle.image_finding.specs.declared.header.LiveHeader.{LiveHeader}
use Rattle.image_finding.specs.Images.{HasImage}
use Rattle.image_finding.proofs.OnlyReads.{read_on}
use Rattle.image_opening.specs.Telling.{Opens, Refuses}
use Rattle.image_opening.proofs.read.read_image.Goals as goal

pub returns-in-Ok-clause-opened : goal.returns-in-Ok-clause-opened
returns-in-Ok-clause-opened g c told =
    let same = c.find_image.ensures.only_read.same_bytes told in
    subst (λ (bytes : List ℕ). IfOk c.read_found.result (Opens bytes)) same
    (c.read_found.ensures.opened told (subst (λ (bytes : List ℕ). HasImage bytes c.in-Ok.image) (sym same) (c.in-Ok.ensures.found told)))

pub returns-in-Ok-clause-refused : goal.returns-in-Ok-clause-refused
returns-in-Ok-clause-refused g c told =
    let same = c.find_image.ensures.only_read.same_bytes told in
    subst (λ (bytes : List ℕ). IfErr c.read_found.result (Refuses bytes)) same
    (c.read_found.ensures.refused told (subst (λ (bytes : List ℕ). HasImage bytes c.in-Ok.image) (sym same) (c.in-Ok.ensures.found told)))

pub returns-in-Ok-clause-only_read : goal.returns-in-Ok-clause-only_read
returns-in-Ok-clause-only_read g c = read_on c.find_image.ensures.only_read c.read_found.ensures.only_read

pub returns-in-Ok-clause-fits : goal.returns-in-Ok-clause-fits
returns-in-Ok-clause-fits g c =
    let size = c.read_found.ensures.only_read.same_size ∙ c.find_image.ensures.only_read.same_size in
    IfOk-weaker c.read_found.result _ _ (λ r same.
    subst (λ (h : LiveHeader). FitsDevice (as_header h) (g.D.Disk.size_of c.read_found.new.disk)) (sym same) (subst (FitsDevice (as_header c.in-Ok.image.header)) (sym size) c.in-Ok.ensures.fits)) c.read_found.ensures.header
