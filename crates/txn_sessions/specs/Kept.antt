-- No clause of `run` rests on this module: it serves contracts between crates.
--
-- How many steps a session counts between two statements.
use Rattle.std.specs.Prelude.{ℕ, ◌≤◌}
use Rattle.std.specs.List.{AllByRecursion}
use Rattle.txn_sessions.specs.declared.standing.Savepoint.{Savepoint}
use Rattle.txn_sessions.specs.declared.standing.Standing.{Standing}

abbrev pub IsKeptBy : ℕ → Savepoint → Type 0
IsKeptBy n s = s.kept ≤ n

-- its transaction keeps no more than n steps, and kept no more at its savepoints
pub record StandsWithin (n : ℕ) (s : Standing) : Type 0 where
  pub kept : s.kept ≤ n
  pub saved : AllByRecursion (IsKeptBy n) s.saved.items
