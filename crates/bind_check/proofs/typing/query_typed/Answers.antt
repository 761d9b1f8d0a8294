use Rattle.std.proofs.Common.{◌≡◌, ◌&&◌, rules, tests, ◌∙◌}
use Rattle.std.proofs.lemmas.Iterator.{YieldsList-from_slice}
use Rattle.std.proofs.lemmas.Iterator.Search.{all_from_yields_List}
use Rattle.std.specs.List.{list_all}
use Rattle.iv_meaning.specs.Types.{family, is_truth, item_typed}
use Rattle.bind_resolve.specs.Seen.{item_seen, joined_seen}
use Rattle.bind_check.specs.Families.{query_by}
use Rattle.bind_check.proofs.SeenLemmas.{typed_query}
use Rattle.bind_check.proofs.typing.query_typed.Goals as goal

pub returns : goal.returns
returns c =
    let items : c.all-items.result ≡ list_all (λ i. item_typed c.as_slice-kinds.result.now (item_seen i).item) c.args.query.now.items = all_from_yields_List (λ i. item_typed c.as_slice-kinds.result.now (item_seen i).item) _ _ c.all-items.result c.all-items.ensures.ran (YieldsList-from_slice c.args.query.now.items cc) (λ x b q k. search (rules, tests)) in
    let joins : c.all-joins.result ≡ list_all (λ j. is_truth (family c.as_slice-kinds.result.now (joined_seen j).on)) c.args.query.now.joins = all_from_yields_List (λ j. is_truth (family c.as_slice-kinds.result.now (joined_seen j).on)) _ _ c.all-joins.result c.all-joins.ensures.ran (YieldsList-from_slice c.args.query.now.joins cc) (λ x b q k. search (rules, tests)) in
    let typed : ((c.all-items.result && c.all-joins.result) && c.condition_typed.result) ≡ query_by c.as_slice-kinds.result.now c.args.query.now = cc in
    typed ∙ typed_query c.args.query.now _ _ (c.as_slice-kinds.ensures ∙ c.in_ok-seen.ensures)
