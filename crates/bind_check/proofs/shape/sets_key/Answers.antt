use Rattle.std.proofs.lemmas.Iterator.{YieldsList-from_slice}
use Rattle.std.proofs.lemmas.Iterator.Search.{any_from_yields_List}
use Rattle.std.proofs.Common.{◌==◌, rules, tests}
use Rattle.std.specs.List.{list_any}
use Rattle.iv_meaning.specs.Bound.{set_tree}
use Rattle.bind_check.proofs.SeenLemmas.{any_seen}
use Rattle.bind_check.proofs.shape.sets_key.Goals as goal

pub returns : goal.returns
returns c = any_seen (λ a. list_any (λ key. key == a.column) c.args.keys.now) set_tree c.args.sets.now _ (any_from_yields_List (λ a. list_any (λ key. key == a.column) c.args.keys.now) _ _ _ c.any.ensures.ran (YieldsList-from_slice c.args.sets.now cc) (λ x b q k. search (rules, tests)))
