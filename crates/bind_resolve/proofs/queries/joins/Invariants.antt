use Rattle.std.proofs.Common.{◌≡◌, [], ◌∷◌, map, drop}
use Rattle.iv_types.specs.Trees.{join_tree}
use Rattle.iv_meaning.specs.Objects.{schema_of}
use Rattle.iv_meaning.specs.Resolving.{called, joins_resolved}
use Rattle.bind_resolve.specs.Seen.{joined_seen, names_in, scope_seen}
use Rattle.bind_resolve.proofs.Walks.{before}
use Rattle.bind_resolve.proofs.queries.joins.Given as goal

abbrev pub invariant-loop-join : goal.invariant-loop-join
invariant-loop-join l =
    before (map joined_seen l.found) (joins_resolved (schema_of l.catalog) (scope_seen l.scope) (names_in l.others.keys) (map join_tree (drop l.join-index l.joins)))
    ≡ joins_resolved (schema_of l.catalog) (scope_seen l.scope) (called l.first ∷ []) (map join_tree l.joins)
