use Rattle.std.proofs.Common.{◌≡◌}
use Rattle.table_store.proofs.Exchanges.{Putting}
use Rattle.table_store.proofs.exchange.put_in.Given as goal

abbrev pub invariant-loop-index : goal.invariant-loop-index
invariant-loop-index g l = record {
  putting : Putting l.fn.entries (g.M.SortedMaps.maps l.fn.maps) (g.M.SortedMaps.maps l.maps) (g.M.SortedMaps.spare l.fn.maps) (g.M.SortedMaps.spare l.maps) (g.M.SortedMaps.limit l.fn.maps) l.left.items;
  limit : g.M.SortedMaps.limit l.maps ≡ g.M.SortedMaps.limit l.fn.maps;
}

abbrev pub decreases-loop-index : goal.decreases-loop-index
decreases-loop-index g l = goal.left-loop-index g l
