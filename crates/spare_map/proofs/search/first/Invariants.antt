use Rattle.std.proofs.Common.{◌≡◌, T}
use Rattle.std.specs.Option.{option_copied, option_map}
use Rattle.std.specs.FinMap.{is_sorted}
use Rattle.table_laws.specs.Place.{place_cmp}
use Rattle.spare_map.specs.Trees.{items, own, first_where, is_from}
use Rattle.spare_map.proofs.Lists.{or_else}
use Rattle.spare_map.proofs.search.first.Given as goal

abbrev pub invariant-loop-at : goal.invariant-loop-at
invariant-loop-at g l =
    T (is_sorted place_cmp (items l.at))
    × (first_where (is_from l.past (l.index, l.key)) (items l.tree)
    ≡ or_else (first_where (is_from l.past (l.index, l.key)) (items l.at)) (option_map own (option_copied l.best)))
