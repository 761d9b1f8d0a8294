use Rattle.std.proofs.Common.{◌≡◌, ◌+◌, take}
use Rattle.std.specs.Prelude.{sum_by}
use Rattle.txn_book.specs.Books.{bytes_of}
use Rattle.txn_book.proofs.book.Book.history_bytes.Given as goal

abbrev pub invariant-loop-session : goal.invariant-loop-session
invariant-loop-session l = l.sum ≡ l.self.entry_bytes + sum_by bytes_of (take l.session l.self.opens)
