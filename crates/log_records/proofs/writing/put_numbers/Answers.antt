use Rattle.log_records.proofs.Puts.{behind}
use Rattle.log_records.proofs.writing.put_numbers.Goals as goal

pub returns-clause-filled : goal.returns-clause-filled
returns-clause-filled c = behind c.put_u8-counted.ensures c.put_sums.ensures.filled
