use Rattle.std.proofs.Common.{◌≡◌, ℕ, List, Ok, ◌∙◌, ap, subst}
use Rattle.std.specs.Prelude.{IfOk}
use Rattle.disk_io.specs.Disk.{part}
use Rattle.log_records.specs.Scan.{scanned}
use Rattle.image_finding.proofs.Outcomes.{none_told}
use Rattle.image_finding.proofs.log.read_records.Goals as goal

pub returns-in-Ok-clause-stands : goal.returns-in-Ok-clause-stands
returns-in-Ok-clause-stands g c told =
    let s = g.D.Disk.seen c.args.disk.now in
    c.records_of.ensures.stands s (c.deref.ensures.value ∙ c.in-Ok.ensures.bytes told ∙ ap (λ p. part p c.args.header.now.area_bytes s) c.area_place-place.ensures)

pub returns-in-Ok-clause-refused : goal.returns-in-Ok-clause-refused
returns-in-Ok-clause-refused g c told =
    let s = g.D.Disk.seen c.args.disk.now in
    c.records_of.ensures.refused s (c.deref.ensures.value ∙ c.in-Ok.ensures.bytes told ∙ ap (λ p. part p c.args.header.now.area_bytes s) c.area_place-place.ensures)

pub returns-in-Ok-clause-records : goal.returns-in-Ok-clause-records
returns-in-Ok-clause-records g c told =
    let s = g.D.Disk.seen c.args.disk.now in
    subst (λ (b : List ℕ). IfOk c.records_of.result (λ read. scanned b ≡ Ok read))
    (c.deref.ensures.value ∙ c.in-Ok.ensures.bytes told ∙ ap (λ p. part p c.args.header.now.area_bytes s) c.area_place-place.ensures) c.records_of.ensures.records

pub returns-in-Err-clause-refused : goal.returns-in-Err-clause-refused
returns-in-Err-clause-refused g c told stands = none_told c.in-Err.fault _ c.in-Err.ensures.no_rule
