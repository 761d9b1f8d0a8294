use Rattle.std.proofs.Common.{◌≡◌}
use Rattle.table_store.proofs.Filled.{Filling}
use Rattle.table_store.proofs.filling.put_all.Given as goal

abbrev pub invariant-loop-key : goal.invariant-loop-key
invariant-loop-key g l = record {
  filling : Filling l.fn.index l.fn.entries (g.M.SortedMaps.maps l.fn.maps) (g.M.SortedMaps.maps l.maps) (g.M.SortedMaps.spare l.fn.maps) (g.M.SortedMaps.spare l.maps) (g.M.SortedMaps.limit l.fn.maps) l.left.items;
  limit : g.M.SortedMaps.limit l.maps ≡ g.M.SortedMaps.limit l.fn.maps;
}

abbrev pub decreases-loop-key : goal.decreases-loop-key
decreases-loop-key g l = goal.left-loop-key g l
