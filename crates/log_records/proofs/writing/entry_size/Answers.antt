use Rattle.std.proofs.Common.{length, length-append, ap, arith, ◌++◌}
use Rattle.std.specs.Int.{w8}
use Rattle.log_records.specs.declared.record.LentRecord.{LentRecord}
use Rattle.log_records.specs.Lent.{stands_for}
use Rattle.log_records.specs.Spelling.{fields, signed, numbers}
use Rattle.log_records.proofs.Puts.{length-sums}
use Rattle.log_records.proofs.writing.entry_size.Goals as goal

pub returns-in-Delta-clause-size : goal.returns-in-Delta-clause-size
returns-in-Delta-clause-size c =
    omega (arith, ap (λ (l : LentRecord). length (fields (stands_for l))) c.in-Delta.is, length-sums c.in-Delta.sums.now, length-append c.in-Delta.group.now (signed w8 c.in-Delta.count ++ numbers c.in-Delta.sums.now))
