use Rattle.std.proofs.Common.{◌≡◌, ◌==◌, rules, tests}
use Rattle.std.proofs.lemmas.Iterator.{YieldsList-from_slice}
use Rattle.std.proofs.lemmas.Iterator.Search.{all_from_yields_List}
use Rattle.std.specs.List.{list_all}
use Rattle.iv_meaning.specs.Resolving.{how_many}
use Rattle.bind_check.specs.Joining.{is_key, is_of_column}
use Rattle.bind_check.proofs.joining.joins_key.Goals as goal

pub returns : goal.returns
returns c =
    let keys : c.all-keys.result ≡ list_all (is_key c.args.first.now c.args.second.now) c.args.pairs.now = all_from_yields_List (is_key c.args.first.now c.args.second.now) _ _ c.all-keys.result c.all-keys.ensures.ran (YieldsList-from_slice c.args.pairs.now cc) (λ x b q k. search (rules, tests)) in
    let once : c.all-once.result ≡ list_all (λ place. how_many (is_of_column place) c.args.pairs.now == 1) c.args.second.now.primary = all_from_yields_List (λ place. how_many (is_of_column place) c.args.pairs.now == 1) _ _ c.all-once.result c.all-once.ensures.ran (YieldsList-from_slice c.args.second.now.primary cc) (λ x b q k. search (rules, tests)) in
    cc
