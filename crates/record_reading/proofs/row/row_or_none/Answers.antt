use Rattle.record_reading.proofs.Changing.{refuses_some}
use Rattle.record_reading.proofs.row.row_or_none.Goals as goal

pub returns-in-Err-clause-err : goal.returns-in-Err-clause-err
returns-in-Err-clause-err c =
    rw c.in-Some.is (refuses_some c.args.table.now c.args.key.now c.in-Some.bytes.now c.in-Err.fault c.in-Err.ensures.err)
