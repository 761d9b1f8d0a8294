use Rattle.std.proofs.Common.{◌≡◌, T}
use Rattle.std.specs.FinMap.{find, is_sorted}
use Rattle.table_laws.specs.Place.{place_cmp}
use Rattle.spare_map.specs.Trees.{items}
use Rattle.spare_map.proofs.search.found.Given as goal

abbrev pub invariant-loop-at : goal.invariant-loop-at
invariant-loop-at g l =
    T (is_sorted place_cmp (items l.at)) × (find place_cmp (l.index, l.key) (items l.tree) ≡ find place_cmp (l.index, l.key) (items l.at))
