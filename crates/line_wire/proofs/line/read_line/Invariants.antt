use Rattle.std.proofs.Common.{◌≡◌, ◌<◌, ◌≤◌, ◌+◌, ◌++◌, ℕ, List, length, Some, true}
use Rattle.line_wire.specs.Reading.{most_kept, lines_left}
use Rattle.line_wire.specs.Wire.{most_bytes}
use Rattle.line_wire.proofs.Gathering.{Gathering}
use Rattle.line_wire.proofs.line.read_line.Given as goal

-- what of the line was read so far
abbrev pub invariant-loop-kept : goal.invariant-loop-kept
invariant-loop-kept g l = record {
  gathering : (bytes : List ℕ) → g.S.Source.left l.fn.source ≡ Some bytes → Gathering l.long (l.fn.kept.held ++ bytes) l.fn.kept.taken (length bytes) l.kept (g.S.Source.left l.source);
  short : length l.kept.text ≤ most_kept;
  taken : l.kept.taken ≤ most_bytes;
  nearer : lines_left l.kept + length l.kept.text ≤ lines_left l.fn.kept;
  further : l.long ≡ true → lines_left l.kept < lines_left l.fn.kept;
  quiet : g.S.Source.faults l.source ≡ g.S.Source.faults l.fn.source;
}

-- each turn takes bytes, or is the last
abbrev pub decreases-loop-kept : goal.decreases-loop-kept
decreases-loop-kept g l = lines_left l.kept
