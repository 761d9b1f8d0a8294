use Rattle.std.proofs.Common.{◌≡◌, ◌++◌, drop, map}
use Rattle.iv_meaning.specs.Resolving as defined
use Rattle.bind_resolve.specs.Seen.{column_seen, item_seen}
use Rattle.bind_resolve.proofs.queries.all_columns.Given as goal

abbrev pub invariant-loop-column : goal.invariant-loop-column
invariant-loop-column l = map item_seen l.items ++ map defined.item_at (map column_seen (drop l.column-index l.scope.columns)) ≡ map defined.item_at (map column_seen l.scope.columns)
