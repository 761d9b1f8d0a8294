use Rattle.std.proofs.Common.{◌≤◌, length, refl, sym, ◌∙◌, ap, subst}
use Rattle.std.specs.Prelude.{IfOk}
use Rattle.std.proofs.lemmas.Bool.{false≢true}
use Rattle.log_disk.specs.Bears.{end_of_first}
use Rattle.image_finding.specs.Headers.{as_header}
use Rattle.image_finding.proofs.Scans.{end_fails, end_passes}
use Rattle.image_finding.proofs.Outcomes.{after_stands, after_refused}
use Rattle.image_finding.proofs.log.records_of.Goals as goal

pub returns-then-not-ends_at-clause-refused : goal.returns-then-not-ends_at-clause-refused
returns-then-not-ends_at-clause-refused c s is stands =
    end_fails s (as_header c.args.header.now) stands _ (λ e. false≢true (c.if-not-ends_at.ensures.1 (ap end_of_first is ∙ e))) refl refl

pub returns-clause-stands : goal.returns-clause-stands
returns-clause-stands c s is stands =
    let h = as_header c.args.header.now in
    after_stands s h (end_passes s h stands (sym (ap end_of_first is) ∙ c.if-not-ends_at.ensures.0 refl)) c.args.area.now is c.scan_at.result c.scan_at.ensures.records

pub returns-clause-refused : goal.returns-clause-refused
returns-clause-refused c s is stands =
    let h = as_header c.args.header.now in
    after_refused s h (end_passes s h stands (sym (ap end_of_first is) ∙ c.if-not-ends_at.ensures.0 refl)) c.args.area.now is c.args.place c.requires.place c.scan_at.result c.scan_at.ensures.fault

pub returns-clause-few : goal.returns-clause-few
returns-clause-few c = subst (λ n. IfOk c.scan_at.result (λ read. length read ≤ n)) c.requires.bytes c.scan_at.ensures.few
