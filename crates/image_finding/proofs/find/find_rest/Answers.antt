use Rattle.std.proofs.Common.{ℕ, List, sym, ◌∙◌, ap, subst}
use Rattle.std.specs.Prelude.{IfOk}
use Rattle.txn_log.specs.Damaged.{FitsDevice}
use Rattle.log_records.specs.Scan.{scanned}
use Rattle.image_finding.specs.Headers.{as_header, area_in, StandsUpTo}
use Rattle.image_finding.specs.Images.{HasImage}
use Rattle.image_finding.specs.Faults.{IfBad}
use Rattle.image_finding.specs.Rules.{IsRefused}
use Rattle.image_finding.proofs.OnlyReads.{read_on}
use Rattle.image_finding.proofs.find.find_rest.Goals as goal

pub returns-in-Ok-clause-found : goal.returns-in-Ok-clause-found
returns-in-Ok-clause-found g c told stands =
    let h = as_header c.args.header in
    let e = c.read_records.ensures.only_read.same_bytes told in
    subst (λ (b : List ℕ). IfOk c.with_pages.result (λ image. HasImage b image)) e
    (c.with_pages.ensures.found told (subst (λ (b : List ℕ). StandsUpTo 7 b h) (sym e) (c.in-Ok.ensures.stands told stands)) (ap (λ (b : List ℕ). scanned (area_in h b)) e ∙ c.in-Ok.ensures.records told))

pub returns-in-Ok-clause-refused : goal.returns-in-Ok-clause-refused
returns-in-Ok-clause-refused g c told stands =
    let h = as_header c.args.header in
    let e = c.read_records.ensures.only_read.same_bytes told in
    subst (λ (b : List ℕ). IfBad c.with_pages.result (λ bad. IsRefused b bad)) e
    (c.with_pages.ensures.refused told (subst (λ (b : List ℕ). StandsUpTo 7 b h) (sym e) (c.in-Ok.ensures.stands told stands)))

pub returns-in-Ok-clause-fits : goal.returns-in-Ok-clause-fits
returns-in-Ok-clause-fits g c = subst (λ n. IfOk c.with_pages.result (λ image. FitsDevice (as_header image.header) n)) c.read_records.ensures.only_read.same_size c.with_pages.ensures.fits

pub returns-in-Err-clause-refused : goal.returns-in-Err-clause-refused
returns-in-Err-clause-refused g c told stands = c.in-Err.ensures.refused told stands

pub returns-in-Ok-clause-only_read : goal.returns-in-Ok-clause-only_read
returns-in-Ok-clause-only_read g c = read_on c.read_records.ensures.only_read c.with_pages.ensures.only_read
