use Rattle.std.proofs.Common.{◌+◌, map, ap, ◌∙◌, drop}
use Rattle.std.proofs.lemmas.List.{map_push}
use Rattle.iv_types.specs.Trees.{join_tree}
use Rattle.iv_meaning.specs.Objects.{schema_of}
use Rattle.iv_meaning.specs.Resolving.{joins_resolved}
use Rattle.bind_resolve.specs.Seen.{joined_seen, names_in, scope_seen}
use Rattle.bind_resolve.proofs.Walks.{before, grows, rest_at}
use Rattle.bind_resolve.proofs.QueryWalks.{one_join}
use Rattle.bind_resolve.proofs.queries.joins.Goals as goal

pub loop-join-preserved : goal.loop-join-preserved
loop-join-preserved c =
    let rest = map join_tree (drop (c.loop-join.join-index + 1) c.args.joins.now) in
    let next = joins_resolved (schema_of c.args.catalog.now) (scope_seen c.args.scope.now) (names_in c.joined.new.others.keys) rest in
    ap (λ (found : _). before found next) (ap (map joined_seen) c.in_ok-push.ensures.ok ∙ map_push joined_seen _ _)
    ∙ grows (map joined_seen c.loop-join.found) _
    (joins_resolved (schema_of c.args.catalog.now) (scope_seen c.args.scope.now) (names_in c.loop-join.others.keys) (map join_tree (drop c.loop-join.join-index c.args.joins.now)))
    next _
    (ap (λ zs. joins_resolved (schema_of c.args.catalog.now) (scope_seen c.args.scope.now) (names_in c.loop-join.others.keys) (map join_tree zs)) (rest_at _ _ c.join-item.result c.loop-join-test.true c.join-item.is)
    ∙ one_join (schema_of c.args.catalog.now) (scope_seen c.args.scope.now) (names_in c.loop-join.others.keys) (names_in c.joined.new.others.keys) (join_tree c.join-item.result) rest _
    c.in_ok-joined.ensures.join c.in_ok-joined.ensures.joined)
    c.loop-join.invariant
