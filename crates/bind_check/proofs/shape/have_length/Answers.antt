use Rattle.std.proofs.Common.{◌==◌, length}
use Rattle.std.proofs.lemmas.Iterator.{YieldsList-from_slice}
use Rattle.std.proofs.lemmas.Iterator.Search.{all_from_yields_List}
use Rattle.std.proofs.Common.{rules, tests}
use Rattle.bind_check.proofs.SeenLemmas.{all_long}
use Rattle.bind_check.proofs.shape.have_length.Goals as goal

pub returns : goal.returns
returns c = all_long c.args.count c.args.tuples.now _ (all_from_yields_List (λ t. length t == c.args.count) _ _ _ c.all.ensures.ran (YieldsList-from_slice c.args.tuples.now cc) (λ x b q k. search (rules, tests)))
