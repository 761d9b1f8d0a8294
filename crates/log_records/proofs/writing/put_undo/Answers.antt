use Rattle.log_records.proofs.Puts.{behind}
use Rattle.log_records.proofs.writing.put_undo.Goals as goal

pub returns-clause-filled : goal.returns-clause-filled
returns-clause-filled c = behind c.put_u64-of_transaction.ensures c.put_u64.ensures
