use Rattle.std.proofs.Common.{arith}
use Rattle.log_records.proofs.RecordLaws.{shrinks}
use Rattle.log_records.proofs.reading.record_of.Goals as goal

pub overflow_sub-end : goal.overflow_sub-end
overflow_sub-end c =
    shrinks c.args.bytes.now c.in_ok-kind.rest.now c.in_ok-number.rest.now c.in_ok-entry.rest.now c.in_ok-kind.kind c.in_ok-number.number c.in_ok-entry.entry (λ i. (c.type_inv.bytes i).fits)
    c.in_ok-kind.ensures c.in_ok-number.ensures c.in_ok-entry.ensures

pub returns-clause-ends : goal.returns-clause-ends
returns-clause-ends c =
    let shorter = shrinks c.args.bytes.now c.in_ok-kind.rest.now c.in_ok-number.rest.now c.in_ok-entry.rest.now c.in_ok-kind.kind c.in_ok-number.number c.in_ok-entry.entry (λ i. (c.type_inv.bytes i).fits)
    c.in_ok-kind.ensures c.in_ok-number.ensures c.in_ok-entry.ensures in
    omega (arith, shorter)
