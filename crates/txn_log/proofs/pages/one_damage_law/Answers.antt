use Rattle.txn_log.proofs.Damaging.{one_damage}
use Rattle.txn_log.proofs.Printed.{one_statement}
use Rattle.txn_log.proofs.pages.one_damage_law.Goals as goal

pub returns : goal.returns
returns c = one_damage one_statement
