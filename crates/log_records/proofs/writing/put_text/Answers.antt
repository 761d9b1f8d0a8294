use Rattle.log_records.proofs.Puts.{behind}
use Rattle.log_records.proofs.writing.put_text.Goals as goal

pub returns : goal.returns
returns c = behind c.put_u32-sized.ensures c.put.ensures
