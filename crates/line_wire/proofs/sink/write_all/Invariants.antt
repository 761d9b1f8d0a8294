use Rattle.std.proofs.Common.{length, ◌-◌, ◌≡◌, ◌≤◌, ◌++◌, ℕ, List, take, Some}
use Rattle.line_wire.proofs.sink.write_all.Given as goal

-- the bytes so far were written
abbrev pub invariant-loop-at : goal.invariant-loop-at
invariant-loop-at g l = record {
  within : l.at ≤ length l.bytes;
  same : (before : List ℕ) → g.K.Sink.written l.fn.sink ≡ Some before → g.K.Sink.written l.sink ≡ Some (before ++ take l.at l.bytes);
  quiet : g.K.Sink.faults l.sink ≡ g.K.Sink.faults l.fn.sink;
}

abbrev pub decreases-loop-at : goal.decreases-loop-at
decreases-loop-at g l = length l.bytes - l.at
