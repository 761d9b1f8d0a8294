use Rattle.std.proofs.Common.{subst, arith}
use Rattle.log_records.specs.Scan.{Fails, scanned}
use Rattle.image_finding.proofs.Scans.{fault_inside, few_scanned}
use Rattle.image_finding.proofs.log.scan_at.Goals as goal

pub overflow_add-result : goal.overflow_add-result
overflow_add-result c =
    let area = c.args.area.now in
    let inside = fault_inside area c.in-Err-Bad.rule c.in-Err-Bad.at (λ i. (c.type_inv.area i).fits)
    (subst (λ f. Fails f (scanned area)) c.in-Err-Bad.field-0-is c.in-Err-Bad.ensures.exact) in
    omega (arith, inside)

pub returns-in-Ok-clause-few : goal.returns-in-Ok-clause-few
returns-in-Ok-clause-few c = few_scanned c.args.area.now c.in-Ok.read (λ i. (c.type_inv.area i).fits) c.in-Ok.ensures.exact
