use Rattle.std.proofs.Common.{Ok, ap, sym, subst, ◌∙◌}
use Rattle.log_records.specs.Scan.{Fails}
use Rattle.log_records.proofs.ScanLaws.{scanned_begins}
use Rattle.log_records.proofs.scanning.scan.Goals as goal

pub returns-in-Ok-clause-blocks : goal.returns-in-Ok-clause-blocks
returns-in-Ok-clause-blocks c groups begins fits = sym (scanned_begins groups c.args.area.now begins fits) ∙ c.in-Ok.ensures ∙ ap Ok (sym c.from_vec.ensures)

pub returns-in-Err-clause-blocks : goal.returns-in-Err-clause-blocks
returns-in-Err-clause-blocks c groups begins fits = subst (Fails c.in-Err.fault) (scanned_begins groups c.args.area.now begins fits) c.in-Err.ensures
