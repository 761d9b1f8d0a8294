use Rattle.log_records.proofs.Puts.{behind}
use Rattle.log_records.proofs.writing.put_commit.Goals as goal

pub returns-clause-filled : goal.returns-clause-filled
returns-clause-filled c = behind c.put_u64-of_transaction.ensures (behind c.put_u64-of_commit.ensures c.put_u32.ensures)
