use Rattle.std.proofs.lemmas.Iterator.{YieldsList-from_slice}
use Rattle.std.proofs.lemmas.Iterator.Search.{all_from_yields_List}
use Rattle.std.proofs.Common.{◌||◌, rules, tests}
use Rattle.iv_meaning.specs.Shape.{is_aggregate, is_grouped}
use Rattle.bind_resolve.specs.Seen.{item_seen}
use Rattle.bind_check.proofs.SeenLemmas.{all_seen}
use Rattle.bind_check.proofs.shape.lists_groups.Goals as goal

pub returns : goal.returns
returns c = all_seen (λ i. is_aggregate i.item || is_grouped c.args.query.now.group i.item) item_seen c.args.query.now.items _ (all_from_yields_List (λ i. is_aggregate (item_seen i).item || is_grouped c.args.query.now.group (item_seen i).item) _ _ _ c.all.ensures.ran (YieldsList-from_slice c.args.query.now.items cc) (λ x b q k. search (rules, tests)))
