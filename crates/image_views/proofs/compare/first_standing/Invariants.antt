use Rattle.std.proofs.Common.{length}
use Rattle.std.specs.Option.{option_copied}
use Rattle.std.specs.FinMap.{entries}
use Rattle.table_store.proofs.Walks.{place, todo}
use Rattle.image_views.proofs.Gaps.{IsAhead}
use Rattle.image_views.proofs.compare.first_standing.Given as goal

abbrev pub invariant-loop-found : goal.invariant-loop-found
invariant-loop-found g l = IsAhead (g.M.SortedMaps.maps l.maps l.view) (option_copied l.fn.last) (place l.found)

abbrev pub decreases-loop-found : goal.decreases-loop-found
decreases-loop-found g l = length (todo (entries (g.M.SortedMaps.maps l.maps l.view)) (place l.found))
