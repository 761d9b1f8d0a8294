use mathlib.Core.Path.{sym, ap, subst, ◌∙◌}
use Rattle.std.specs.Prelude.{◌≡◌}
use Rattle.txn_machine.specs.Fresh.{fresh}
use Rattle.txn_machine.specs.Laws.{IsOpened}
use Rattle.txn_log.specs.Replay.{Reading, recovered}
use Rattle.txn_log.specs.Fitting.{IsFit}
use Rattle.txn_log.specs.Moments.{store_of, disk_of, left_by, IsRight}
use Rattle.txn_log.proofs.Meaning.{meaning}
use Rattle.txn_log.proofs.Happening.{crash}
use Rattle.txn_log.proofs.Once.{reading_once}
use Rattle.txn_log.proofs.Printed.{prints_again, one_statement}
use Rattle.txn_log.proofs.crashes.recovered_views_law.Goals as goal

pub returns : goal.returns
returns c = λ p was opening w run k r read place column.
    let right : IsRight (store_of w) (left_by w k) (disk_of w).acknowledged = crash prints_again p was opening w run k in
    let same : right.reading ≡ r = reading_once one_statement (left_by w k) right.reading r right.is_read read in
    let means = meaning r (subst IsFit same right.fits) in
    let opens = subst (λ (x : Reading). IsOpened (recovered x).db (recovered x).view) same right.opens in
    sym (means.1 place column) ∙ (opens.rows place column ∙ ap (λ objects. fresh objects (recovered r).db.rows place column) means.3)
