use Rattle.std.proofs.Common.{◌≡◌, ◌++◌, map, drop}
use Rattle.bind_resolve.specs.Seen.{names_in}
use Rattle.bind_resolve.proofs.scope.names_of.Given as goal

abbrev pub invariant-loop-column : goal.invariant-loop-column
invariant-loop-column l = names_in l.names ++ map (λ c. c.name) (drop l.column-index l.columns) ≡ map (λ c. c.name) l.columns
