use Rattle.std.proofs.Common.{◌≡◌}
use Rattle.std.specs.FinMap.{len}
use Rattle.image_store.specs.Filled.{IsFilling}
use Rattle.image_store.proofs.fill.take_all.Given as goal

abbrev pub invariant-loop : goal.invariant-loop
invariant-loop g l = record {
  filling : IsFilling l.fn.left.entries l.left.entries l.store.catalog (g.M.SortedMaps.maps l.store.tables) l.store.views;
  limit : g.M.SortedMaps.limit l.store.tables ≡ g.M.SortedMaps.limit l.fn.store.tables;
  rest : l.store ≡ record l.fn.store { tables = l.store.tables; views = l.store.views };
}

abbrev pub decreases-loop : goal.decreases-loop
decreases-loop g l = len l.left.entries
