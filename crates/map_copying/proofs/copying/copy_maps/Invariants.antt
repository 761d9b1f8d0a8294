use Rattle.std.proofs.Common.{◌≡◌, ℕ, ◌<◌, ◌≤◌}
use Rattle.std.specs.FinMap.{empty}
use Rattle.map_copying.proofs.copying.copy_maps.Given as goal

abbrev pub invariant-loop-index : goal.invariant-loop-index
invariant-loop-index g l = record {
  most : l.index ≤ 193;
  done : (i : ℕ) → i < l.index → g.B.SortedMaps.maps l.to i ≡ g.A.SortedMaps.maps l.from i;
  rest : (i : ℕ) → l.index ≤ i → g.B.SortedMaps.maps l.to i ≡ empty;
  limit : g.B.SortedMaps.limit l.to ≡ g.B.SortedMaps.limit l.fn.to;
}
