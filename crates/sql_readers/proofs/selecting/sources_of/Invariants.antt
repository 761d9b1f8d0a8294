use Rattle.std.proofs.Common.{◌≡◌, ◌<◌, length, map}
use Rattle.iv_types.specs.Limits.{the_limits}
use Rattle.iv_types.specs.Trees.{join_tree}
use Rattle.sql_readers.specs.Statements.{from}
use Rattle.sql_readers.proofs.Rounds.{more_sources}
use Rattle.sql_readers.proofs.selecting.sources_of.Given as goal

-- what is left, behind what was made so far, is the relations
abbrev pub invariant-loop-alloc : goal.invariant-loop-alloc
invariant-loop-alloc l = record {
  same : more_sources the_limits (l.first, map join_tree l.joins.items) l.cursor ≡ from the_limits l.fn.cursor;
  shorter : length l.cursor < length l.fn.cursor;
}

abbrev pub decreases-loop-alloc : goal.decreases-loop-alloc
decreases-loop-alloc l = length l.cursor
