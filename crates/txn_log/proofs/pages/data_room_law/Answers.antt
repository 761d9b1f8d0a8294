use Rattle.txn_log.proofs.Printed.{one_statement, prints_again}
use Rattle.txn_log.proofs.Once.{reading_once}
use Rattle.txn_log.proofs.Rooming.{data_room}
use Rattle.txn_log.proofs.pages.data_room_law.Goals as goal

pub returns : goal.returns
returns c = data_room prints_again (reading_once one_statement)
