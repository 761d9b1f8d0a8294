use Rattle.std.proofs.Common.{◌≡◌, ◌<◌, length}
use Rattle.iv_types.specs.Limits.{the_limits}
use Rattle.sql_readers.specs.Statements.{columns}
use Rattle.sql_readers.proofs.Rounds.{more_columns}
use Rattle.sql_readers.proofs.creating.columns_of.Given as goal

-- what is left, behind what was made so far, is the columns
abbrev pub invariant-loop-alloc : goal.invariant-loop-alloc
invariant-loop-alloc l = record {
  same : more_columns the_limits l.made.items l.cursor ≡ columns the_limits l.fn.cursor;
  shorter : length l.cursor < length l.fn.cursor;
}

abbrev pub decreases-loop-alloc : goal.decreases-loop-alloc
decreases-loop-alloc l = length l.cursor
