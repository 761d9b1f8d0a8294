use Rattle.log_records.proofs.Puts.{behind}
use Rattle.log_records.proofs.writing.put_group.Goals as goal

pub returns-clause-filled : goal.returns-clause-filled
returns-clause-filled c = behind c.put_u32-of_view.ensures c.put_bytes.ensures
