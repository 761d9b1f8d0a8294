use Rattle.std.proofs.Common.{◌≡◌, ◌-◌}
use Rattle.txn_book.specs.Books.{least_snapshot, number_of}
use Rattle.txn_book.proofs.book.Book.least_snapshot.Given as goal

abbrev pub invariant-loop-done : goal.invariant-loop-done
invariant-loop-done l = least_snapshot l.self.opens (64 - l.done) l.least ≡ least_snapshot l.self.opens 64 (number_of l.self)
