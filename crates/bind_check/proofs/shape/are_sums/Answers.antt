use Rattle.bind_resolve.specs.Seen.{item_seen}
use Rattle.bind_check.specs.Shapes.{is_named_sum}
use Rattle.std.proofs.lemmas.Iterator.{YieldsList-from_slice}
use Rattle.std.proofs.lemmas.Iterator.Search.{all_from_yields_List}
use Rattle.std.proofs.Common.{rules, tests}
use Rattle.bind_check.proofs.ShapeLemmas.{sums_are}
use Rattle.bind_check.proofs.shape.are_sums.Goals as goal

pub returns : goal.returns
returns c = sums_are c.args.items.now _ (all_from_yields_List (λ i. is_named_sum (item_seen i)) _ _ _ c.all.ensures.ran (YieldsList-from_slice c.args.items.now cc) (λ x b q k. search (rules, tests)))
