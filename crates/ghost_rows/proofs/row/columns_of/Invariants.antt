use Rattle.std.proofs.Common.{◌≡◌, ◌++◌, drop, map}
use Rattle.escrow_bounds.specs.Column.{untouched}
use Rattle.ghost_rows.proofs.row.columns_of.Given as goal

abbrev pub invariant-loop-index : goal.invariant-loop-index
invariant-loop-index l = l.columns.items ++ map untouched (drop l.index l.numbers) ≡ map untouched l.numbers
