use Rattle.log_records.proofs.Puts.{behind}
use Rattle.log_records.proofs.writing.put_schema.Goals as goal

pub returns-clause-filled : goal.returns-clause-filled
returns-clause-filled c = behind c.put_u64-of_commit.ensures (behind c.put_u32-of_session.ensures c.put_text.ensures)
