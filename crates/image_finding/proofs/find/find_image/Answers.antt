use Rattle.std.proofs.Common.{ℕ, List, sym, subst}
use Rattle.std.specs.Prelude.{IfOk}
use Rattle.txn_log.specs.Damaged.{FitsDevice}
use Rattle.image_finding.specs.Headers.{as_header, StandsUpTo}
use Rattle.image_finding.specs.Images.{HasImage}
use Rattle.image_finding.specs.Faults.{IfBad}
use Rattle.image_finding.specs.Rules.{IsRefused}
use Rattle.image_finding.proofs.OnlyReads.{read_on}
use Rattle.image_finding.proofs.find.find_image.Goals as goal

pub returns-in-Ok-clause-found : goal.returns-in-Ok-clause-found
returns-in-Ok-clause-found g c told =
    let h = as_header c.in-Ok.header in
    let e = c.find_header.ensures.only_read.same_bytes told in
    subst (λ (b : List ℕ). IfOk c.find_rest.result (λ image. HasImage b image)) e
    (c.find_rest.ensures.found told (subst (λ (b : List ℕ). StandsUpTo 4 b h) (sym e) (c.in-Ok.ensures.stands told)))

pub returns-in-Ok-clause-refused : goal.returns-in-Ok-clause-refused
returns-in-Ok-clause-refused g c told =
    let h = as_header c.in-Ok.header in
    let e = c.find_header.ensures.only_read.same_bytes told in
    subst (λ (b : List ℕ). IfBad c.find_rest.result (λ bad. IsRefused b bad)) e
    (c.find_rest.ensures.refused told (subst (λ (b : List ℕ). StandsUpTo 4 b h) (sym e) (c.in-Ok.ensures.stands told)))

pub returns-in-Ok-clause-fits : goal.returns-in-Ok-clause-fits
returns-in-Ok-clause-fits g c = subst (λ n. IfOk c.find_rest.result (λ image. FitsDevice (as_header image.header) n)) c.find_header.ensures.only_read.same_size c.find_rest.ensures.fits

pub returns-in-Err-clause-refused : goal.returns-in-Err-clause-refused
returns-in-Err-clause-refused g c told = c.in-Err.ensures.refused told

pub returns-in-Ok-clause-only_read : goal.returns-in-Ok-clause-only_read
returns-in-Ok-clause-only_read g c = read_on c.find_header.ensures.only_read c.find_rest.ensures.only_read
