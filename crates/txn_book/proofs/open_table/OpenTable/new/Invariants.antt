use Rattle.std.proofs.Common.{◌≡◌, length}
use Rattle.txn_book.proofs.Seating.{AreFree}
use Rattle.txn_book.proofs.open_table.OpenTable.new.Given as goal

abbrev pub invariant-loop : goal.invariant-loop
invariant-loop l = AreFree l.seats.items × (length l.seats.items ≡ l.counter)
