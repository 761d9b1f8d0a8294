use Rattle.std.proofs.Common.{◌≡◌}
use Rattle.std.specs.Option.{option_copied, option_map}
use Rattle.version_chain.specs.Versions.{AreInOrder, first_where, is_from}
use Rattle.version_chain.specs.Trees.{items, own}
use Rattle.spare_map.proofs.Lists.{or_else}
use Rattle.version_chain.proofs.search.first.Given as goal

abbrev pub invariant-loop-at : goal.invariant-loop-at
invariant-loop-at g l =
    AreInOrder (items l.at)
    × (first_where (is_from l.past ((l.index, l.key), l.number)) (items l.tree)
    ≡ or_else (first_where (is_from l.past ((l.index, l.key), l.number)) (items l.at)) (option_map own (option_copied l.best)))
