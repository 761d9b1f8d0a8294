use Rattle.std.proofs.lemmas.Iterator.{YieldsList-from_slice}
use Rattle.std.proofs.lemmas.Iterator.Search.{all_from_yields_List}
use Rattle.std.proofs.Common.{rules, tests}
use Rattle.iv_types.specs.Trees.{trees}
use Rattle.iv_meaning.specs.Types.{tuple_typed}
use Rattle.bind_check.proofs.SeenLemmas.{all_seen}
use Rattle.bind_check.proofs.typing.tuples_typed.Goals as goal

pub returns : goal.returns
returns c = all_seen (tuple_typed c.args.kinds.now) trees c.args.tuples.now _ (all_from_yields_List (λ t. tuple_typed c.args.kinds.now (trees t)) _ _ _ c.all.ensures.ran (YieldsList-from_slice c.args.tuples.now cc) (λ x b q k. search (rules, tests)))
