use Rattle.std.proofs.Common.{refl, sym, ◌∙◌, subst}
use Rattle.image_finding.specs.Headers.{as_header, IsLiveIf}
use Rattle.image_finding.proofs.Heading.{none_lives, one_lives}
use Rattle.image_finding.proofs.rules.find_header.Goals as goal

pub returns-in_default-clause-refused : goal.returns-in_default-clause-refused
returns-in_default-clause-refused g c told =
    let s = g.D.Disk.seen c.args.disk.now in
    none_lives s _ (subst (λ o. IsLiveIf s o) c.in_default.is (c.in_ok-found.ensures.live told)) refl refl

pub returns-in-Ok-clause-stands : goal.returns-in-Ok-clause-stands
returns-in-Ok-clause-stands g c told =
    let laws = g.met.D.Disk in
    let s = g.D.Disk.seen c.args.disk.now in
    c.in-Ok.ensures.stands s (laws.has_size told c.args.disk.now ∙ sym c.size-bytes.ensures)
    (one_lives s (as_header c.in-Some.header) (subst (λ o. IsLiveIf s o) c.in-Some.is (c.in_ok-found.ensures.live told)))

pub returns-in-Err-clause-refused : goal.returns-in-Err-clause-refused
returns-in-Err-clause-refused g c told =
    let laws = g.met.D.Disk in
    let s = g.D.Disk.seen c.args.disk.now in
    c.in-Err.ensures.refused s (laws.has_size told c.args.disk.now ∙ sym c.size-bytes.ensures)
    (one_lives s (as_header c.in-Some.header) (subst (λ o. IsLiveIf s o) c.in-Some.is (c.in_ok-found.ensures.live told)))
