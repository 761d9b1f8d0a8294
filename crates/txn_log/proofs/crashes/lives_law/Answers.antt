use Rattle.txn_log.proofs.Happening.{crash}
use Rattle.txn_log.proofs.Living.{lives}
use Rattle.txn_log.proofs.Once.{reading_once}
use Rattle.txn_log.proofs.Printed.{prints_again, one_statement}
use Rattle.txn_log.proofs.crashes.lives_law.Goals as goal

pub returns : goal.returns
returns c = lives (crash prints_again) (reading_once one_statement)
