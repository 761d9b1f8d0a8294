use Rattle.std.proofs.Common.{subst, ap, ◌∙◌}
use Rattle.iv_types.specs.Trees.{query_tree}
use Rattle.iv_meaning.specs.Objects.{schema_of}
use Rattle.bind_resolve.specs.Meant.{IsMeant}
use Rattle.bind_resolve.specs.Seen.{query_seen}
use Rattle.bind_resolve.specs.Walking.{query_by}
use Rattle.bind_resolve.proofs.QueryWalks.{query_is}
use Rattle.bind_resolve.proofs.queries.query.Goals as goal

pub returns : goal.returns
returns c =
    subst (IsMeant query_seen c.query_in.result)
    (ap (λ s. query_by c.args.view (schema_of c.args.catalog.now) s (query_tree c.args.query.now)) c.in_ok-scope.ensures ∙ query_is c.args.view (schema_of c.args.catalog.now) (query_tree c.args.query.now)) c.query_in.ensures
