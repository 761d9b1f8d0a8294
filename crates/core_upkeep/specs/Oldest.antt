-- No clause of `run` rests on this module: it serves contracts between crates.
--
-- Up to which number versions may go.
use Rattle.std.specs.Prelude.{ℕ}
use Rattle.iv_types.specs.declared.limit.TheConstants.{MOST_SESSIONS}
use Rattle.txn_book.specs.Books.{Books, least_snapshot, number_of}

-- the least number of an open snapshot, or the greatest number where none is open
abbrev pub oldest : Books → ℕ
oldest book = least_snapshot book.opens MOST_SESSIONS (number_of book)
