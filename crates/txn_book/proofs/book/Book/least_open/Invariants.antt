use Rattle.std.proofs.Common.{◌≡◌, ℕ, ◌≤◌, ◌<◌, None}
use Rattle.txn_book.specs.Opens.{open_at}
use Rattle.txn_book.proofs.book.Book.least_open.Given as goal

abbrev pub invariant-loop-session : goal.invariant-loop-session
invariant-loop-session l = (other : ℕ) → 1 ≤ other → other < l.session → open_at l.self.opens other ≡ None
