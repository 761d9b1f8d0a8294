use Rattle.std.proofs.Common.{rules, tests}
use Rattle.std.proofs.lemmas.Iterator.{YieldsList-from_slice}
use Rattle.std.proofs.lemmas.Iterator.Search.{any_from_yields_List}
use Rattle.iv_meaning.specs.Shape.{is_aggregate}
use Rattle.bind_resolve.specs.Seen.{item_seen}
use Rattle.bind_check.proofs.SeenLemmas.{any_seen}
use Rattle.bind_check.proofs.shape.aggregates.Goals as goal

pub returns : goal.returns
returns c =
    any_seen (λ i. is_aggregate i.item) item_seen c.args.query.now.items _
    (any_from_yields_List (λ i. is_aggregate (item_seen i).item) _ _ _ c.any.ensures.ran (YieldsList-from_slice c.args.query.now.items cc) (λ x b q k. search (rules, tests)))
