use Rattle.std.proofs.Common.{◌≡◌, ◌≤◌, length, drop, None}
use Rattle.iv_types.specs.Intervals.{next}
use Rattle.row_codec.proofs.intervals.len_without_255.Given as goal

abbrev pub invariant-loop-end : goal.invariant-loop-end
invariant-loop-end l = record {
  within : l.end ≤ length l.bytes;
  behind : next (drop l.end l.bytes) ≡ None;
}

abbrev pub decreases-loop-end : goal.decreases-loop-end
decreases-loop-end l = l.end
