use Rattle.std.proofs.Common.{◌≡◌, ◌++◌, drop, map}
use Rattle.ghost_rows.proofs.row.Row.committed_numbers.Given as goal

abbrev pub invariant-loop-index : goal.invariant-loop-index
invariant-loop-index l = l.found.items ++ map (λ c. c.committed) (drop l.index l.self.columns) ≡ map (λ c. c.committed) l.self.columns
