use Rattle.log_records.proofs.Puts.{behind}
use Rattle.log_records.proofs.writing.put_bytes.Goals as goal

pub returns : goal.returns
returns c = behind c.put_u16-sized.ensures c.put.ensures
