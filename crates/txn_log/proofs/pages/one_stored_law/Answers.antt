use Rattle.txn_log.proofs.Printed.{one_statement}
use Rattle.txn_log.proofs.Standing.{one_stored}
use Rattle.txn_log.proofs.pages.one_stored_law.Goals as goal

pub returns : goal.returns
returns c = one_stored one_statement
