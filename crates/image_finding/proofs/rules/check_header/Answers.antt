use Rattle.std.proofs.Common.{refl, sym, subst}
use Rattle.std.proofs.lemmas.Bool.{false≢true}
use Rattle.txn_log.specs.Damaged.{FitsDevice}
use Rattle.image_finding.specs.Headers.{as_header}
use Rattle.image_finding.proofs.Heading.{format_fails, sizes_fail, area_fails, header_passes}
use Rattle.image_finding.proofs.rules.check_header.Goals as goal

pub returns-then-header-ne-FORMAT-clause-refused : goal.returns-then-header-ne-FORMAT-clause-refused
returns-then-header-ne-FORMAT-clause-refused c s size stands = format_fails s (as_header c.args.header.now) stands _ c.if-header-ne-FORMAT.true refl refl

pub returns-then-not-fits_device-clause-refused : goal.returns-then-not-fits_device-clause-refused
returns-then-not-fits_device-clause-refused c s size stands =
    let h = as_header c.args.header.now in
    sizes_fail s h stands c.if-header-ne-FORMAT.false _ (λ fits. false≢true (c.if-not-fits_device.ensures.1 (subst (FitsDevice h) size fits))) refl refl

pub returns-then-header-gt1-clause-refused : goal.returns-then-header-gt1-clause-refused
returns-then-header-gt1-clause-refused c s size stands =
    let h = as_header c.args.header.now in
    area_fails s h stands c.if-header-ne-FORMAT.false (subst (FitsDevice h) (sym size) (c.if-not-fits_device.ensures.0 refl)) _ c.if-header-gt1.true refl refl

pub returns-clause-stands : goal.returns-clause-stands
returns-clause-stands c s size stands =
    let h = as_header c.args.header.now in
    header_passes s h stands c.if-header-ne-FORMAT.false (subst (FitsDevice h) (sym size) (c.if-not-fits_device.ensures.0 refl)) c.if-header-gt1.false
