use Rattle.std.proofs.Common.{◌≡◌, ◌<◌, length, map}
use Rattle.sql_readers.specs.Statements.{comma_list}
use Rattle.sql_readers.proofs.Rounds.{more_of}
use Rattle.sql_readers.proofs.part.listed.Given as goal

-- what is left, behind what was made so far, is the list
abbrev pub invariant-loop-alloc : goal.invariant-loop-alloc
invariant-loop-alloc g l = record {
  same : more_of g.P.Part.reader (map g.P.Part.seen l.made.items) l.cursor ≡ comma_list g.P.Part.reader l.fn.cursor;
  shorter : length l.cursor < length l.fn.cursor;
}

abbrev pub decreases-loop-alloc : goal.decreases-loop-alloc
decreases-loop-alloc g l = length l.cursor
