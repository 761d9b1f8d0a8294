-- No clause of `run` rests on this module: it serves contracts between crates.
--
-- What a session asks of an engine: the atomic step.
use Rattle.std.specs.Prelude.{ℕ, List, Option}
use Rattle.iv_types.specs.declared.statement.Mode.{Mode}
use Rattle.iv_types.specs.declared.lock.LockMode.{LockMode}
use Rattle.iv_types.specs.declared.value.Interval.{Interval}
use Rattle.iv_types.specs.Syntax.{StatementTree}
use Rattle.iv_meaning.specs.Database.{Row}

pub data Act : Type 0 where
  -- opens a transaction
  Begin : Mode → Act
  -- a copy of the catalog
  Defs : Act
  -- locks an interval of an index and reads it
  Fetch : (index : ℕ) (interval : Interval) (mode : LockMode) → Act
  -- reads an interval as of a snapshot's number
  Peek : (index : ℕ) (interval : Interval) → Act
  -- sets the row, or none, under a key of a table
  Put : (table : ℕ) (key : List ℕ) (new : Option Row) → Act
  -- adds the first owed delta to its view row
  Pay : Act
  -- makes that row, if it is absent
  Ghost : Act
  -- takes the latest kept Put or Pay back
  UndoOne : Act
  -- ends the transaction without a commit
  End : Act
  Commit : Act
  -- a CREATE statement, as a transaction of its own
  Schema : StatementTree → Act
  -- removes a ghost
  Clean : Act
  -- drops the versions that no open snapshot can need
  Prune : Act
  -- writes what is stored to the disk's pages, with the records of open transactions
  Checkpoint : Act
  -- forgets what the session waits for
  Cancel : Act
