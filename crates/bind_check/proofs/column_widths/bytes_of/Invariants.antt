use Rattle.std.proofs.Common.{◌≡◌, ◌≤◌, ◌+◌, ◌*◌, drop}
use Rattle.iv_meaning.specs.Shape.{width}
use Rattle.bind_check.specs.Counting.{width_of}
use Rattle.bind_check.proofs.column_widths.bytes_of.Given as goal

abbrev pub invariant-loop-index : goal.invariant-loop-index
invariant-loop-index l = (l.sum + width (width_of l.which) (drop l.index l.kinds) ≡ width (width_of l.which) l.kinds) × (l.sum ≤ 402 * l.index)
