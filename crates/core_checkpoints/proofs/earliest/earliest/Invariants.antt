use Rattle.std.proofs.Common.{◌≤◌}
use Rattle.core_recording.specs.Carrying.{done_at}
use Rattle.core_recording.specs.Earliest.{LeastUpTo}
use Rattle.core_checkpoints.proofs.earliest.earliest.Given as goal

abbrev pub invariant-loop-before : goal.invariant-loop-before
invariant-loop-before l = record {
  most : l.before ≤ 64;
  least : LeastUpTo l.book.opens (done_at l.done) l.before l.least;
}
