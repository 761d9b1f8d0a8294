use Rattle.std.proofs.Common.{◌≡◌, ◌+◌, ◌≤◌, length}
use Rattle.std.specs.Fmt.{decimal}
use Rattle.sql_pieces.proofs.writing.digits_of.Given as goal

abbrev pub invariant-loop-left : goal.invariant-loop-left
invariant-loop-left l = record {
  rest : l.count + length (decimal l.left) ≡ length (decimal l.number) + 1;
  below : l.left ≤ l.number;
  few : l.count ≤ 40;
}

abbrev pub decreases-loop-left : goal.decreases-loop-left
decreases-loop-left l = l.left
