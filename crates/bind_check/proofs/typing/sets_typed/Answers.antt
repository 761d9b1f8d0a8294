use Rattle.std.proofs.lemmas.Iterator.{YieldsList-from_slice}
use Rattle.std.proofs.lemmas.Iterator.Search.{all_from_yields_List}
use Rattle.std.proofs.Common.{rules, tests}
use Rattle.iv_meaning.specs.Bound.{set_tree}
use Rattle.iv_meaning.specs.Types.{set_typed}
use Rattle.bind_check.proofs.SeenLemmas.{all_seen}
use Rattle.bind_check.proofs.typing.sets_typed.Goals as goal

pub returns : goal.returns
returns c = all_seen (set_typed c.args.kinds.now) set_tree c.args.sets.now _ (all_from_yields_List (λ a. set_typed c.args.kinds.now (set_tree a)) _ _ _ c.all.ensures.ran (YieldsList-from_slice c.args.sets.now cc) (λ x b q k. search (rules, tests)))
