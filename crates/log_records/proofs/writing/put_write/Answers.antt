use Rattle.log_records.proofs.Puts.{behind}
use Rattle.log_records.proofs.writing.put_write.Goals as goal

pub returns-clause-filled : goal.returns-clause-filled
returns-clause-filled c = behind c.put_u64-of_transaction.ensures (behind c.put_u32-of_table.ensures (behind c.put_bytes-of_key.ensures (behind c.put_row-of_before.ensures c.put_row.ensures)))
