use mathlib.Core.Path.{sym, subst}
use Rattle.txn_machine.specs.Log.{Within}
use Rattle.txn_log.specs.Replay.{recovered}
use Rattle.txn_log.specs.Refused.{data_left}
use Rattle.txn_log.specs.Moments.{store_of, disk_of, left_by, IsRight}
use Rattle.txn_log.proofs.Happening.{crash}
use Rattle.txn_log.proofs.Printed.{prints_again}
use Rattle.txn_log.proofs.Refusing.{right_fine}
use Rattle.txn_log.proofs.refusals.not_refused_law.Goals as goal

pub returns : goal.returns
returns c = λ p was opening w run k i same free few many.
    let right : IsRight (store_of w) (left_by w k) (disk_of w).acknowledged = crash prints_again p was opening w run k in
    right_fine (store_of w) (left_by w k) (disk_of w).acknowledged right i same (subst (λ o. Within o (data_left i (recovered right.reading))) (sym free) tt) few many
