use Rattle.std.proofs.Common.{◌≡◌, ◌++◌, map, drop}
use Rattle.iv_meaning.specs.Resolving.{columns_from}
use Rattle.bind_resolve.specs.Seen.{column_seen, names_in}
use Rattle.bind_resolve.proofs.scope.add_relation.Given as goal

abbrev pub invariant-loop-column : goal.invariant-loop-column
invariant-loop-column l =
    (map column_seen l.scope.columns ++ columns_from l.relation l.source l.column (names_in (drop l.column l.names))
    ≡ map column_seen l.fn.scope.columns ++ columns_from l.relation l.source 0 (names_in l.names))
    × (l.scope.relations ≡ l.fn.scope.relations)
