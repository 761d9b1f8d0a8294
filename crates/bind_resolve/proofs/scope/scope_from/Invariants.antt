use Rattle.std.proofs.Common.{◌≡◌, ◌+◌, ◌++◌, ◌∷◌, map, drop, length}
use Rattle.iv_meaning.specs.Objects.{schema_of}
use Rattle.iv_meaning.specs.Resolving.{called, columns_seen}
use Rattle.bind_resolve.specs.Seen.{column_seen, names_in}
use Rattle.bind_resolve.proofs.ScopeLemmas.{called_in, relations_in}
use Rattle.bind_resolve.proofs.scope.scope_from.Given as goal

abbrev pub invariant-loop-join : goal.invariant-loop-join
invariant-loop-join l =
    (names_in l.scope.relations ++ called_in (drop l.join-index l.join-items) ≡ called l.query.first ∷ called_in l.join-items)
    × (map column_seen l.scope.columns ++ columns_seen (schema_of l.catalog) (l.join-index + 1) (relations_in (drop l.join-index l.join-items))
    ≡ columns_seen (schema_of l.catalog) 0 (l.query.first ∷ relations_in l.join-items))
    × (length l.scope.relations ≡ l.join-index + 1)
