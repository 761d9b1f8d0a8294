use Rattle.std.proofs.Common.{◌≡◌, [], map, drop}
use Rattle.iv_types.specs.Trees.{item_tree}
use Rattle.iv_meaning.specs.Resolving.{items_resolved}
use Rattle.bind_resolve.specs.Seen.{item_seen, names_in, scope_seen}
use Rattle.bind_resolve.proofs.Walks.{before}
use Rattle.bind_resolve.proofs.queries.items.Given as goal

abbrev pub invariant-loop-item : goal.invariant-loop-item
invariant-loop-item l =
    before (map item_seen l.found.items) (items_resolved l.view (scope_seen l.scope) (names_in l.others.keys) (map item_tree (drop l.item-index l.items)))
    ≡ items_resolved l.view (scope_seen l.scope) [] (map item_tree l.items)
