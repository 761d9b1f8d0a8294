use Rattle.std.proofs.Common.{◌≡◌, take}
use Rattle.std.specs.Prelude.{sum_by}
use Rattle.txn_book.specs.Books.{puts_of}
use Rattle.txn_book.proofs.book.Book.changes.Given as goal

abbrev pub invariant-loop-session : goal.invariant-loop-session
invariant-loop-session l = l.sum ≡ sum_by puts_of (take l.session l.self.opens)
