use Rattle.std.proofs.Common.{arith}
use Rattle.txn_book.proofs.Seating.{none_seated, none_open}
use Rattle.txn_book.proofs.open_table.OpenTable.new.Goals as goal

pub invariant_of-result : goal.invariant_of-result
invariant_of-result c = (none_seated c.new.result c.loop.seats.items c.loop.invariant.0, omega (arith, c.loop.invariant.1, c.loop-test.false, c.loop.auto.counter-end))

pub returns-clause-none : goal.returns-clause-none
returns-clause-none c = λ i. none_open c.new.result c.loop.seats.items c.loop.invariant.0 i
