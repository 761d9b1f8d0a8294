use Rattle.std.proofs.Common.{◌++◌, map, ap, ◌∙◌, drop, ◌+◌}
use Rattle.std.proofs.lemmas.List.{map-append}
use Rattle.iv_types.specs.Trees.{item_tree}
use Rattle.iv_meaning.specs.Resolving.{items_resolved}
use Rattle.bind_resolve.specs.Seen.{item_seen, names_in, scope_seen}
use Rattle.bind_resolve.proofs.Walks.{before, grows, rest_at}
use Rattle.bind_resolve.proofs.QueryWalks.{one_item}
use Rattle.bind_resolve.proofs.queries.items.Goals as goal

pub loop-item-preserved : goal.loop-item-preserved
loop-item-preserved c =
    let others = names_in c.loop-item.others.keys in
    ap (λ (found : _). before found (items_resolved c.args.view (scope_seen c.args.scope.now) (names_in c.next_items.new.others.keys) (map item_tree (drop (c.loop-item.item-index + 1) c.args.items.now))))
    (ap (map item_seen) (c.in_ok-append.ensures.items ∙ ap (λ some. c.loop-item.found.items ++ some) c.into_vec.ensures) ∙ map-append item_seen c.loop-item.found.items c.in_ok-some.some)
    ∙ grows (map item_seen c.loop-item.found.items) (map item_seen c.in_ok-some.some)
    (items_resolved c.args.view (scope_seen c.args.scope.now) others (map item_tree (drop c.loop-item.item-index c.args.items.now)))
    (items_resolved c.args.view (scope_seen c.args.scope.now) (names_in c.next_items.new.others.keys) (map item_tree (drop (c.loop-item.item-index + 1) c.args.items.now))) _
    (ap (λ zs. items_resolved c.args.view (scope_seen c.args.scope.now) others (map item_tree zs)) (rest_at _ _ c.item-item.result c.loop-item-test.true c.item-item.is)
    ∙ one_item c.args.view (scope_seen c.args.scope.now) others (names_in c.next_items.new.others.keys) (item_tree c.item-item.result) (map item_tree (drop (c.loop-item.item-index + 1) c.args.items.now)) (map item_seen c.in_ok-some.some)
    c.in_ok-some.ensures.items c.in_ok-some.ensures.joined)
    c.loop-item.invariant
