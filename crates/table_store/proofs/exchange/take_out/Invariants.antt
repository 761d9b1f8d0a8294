use Rattle.std.proofs.Common.{◌≡◌, drop}
use Rattle.table_store.proofs.Exchanges.{Taking}
use Rattle.table_store.proofs.exchange.take_out.Given as goal

abbrev pub invariant-loop-entry : goal.invariant-loop-entry
invariant-loop-entry g l = record {
  taking : Taking l.entries (g.M.SortedMaps.maps l.initial.maps) (g.M.SortedMaps.maps l.maps) (g.M.SortedMaps.spare l.initial.maps) (g.M.SortedMaps.spare l.maps) (drop l.entry-index l.entries);
  limit : g.M.SortedMaps.limit l.maps ≡ g.M.SortedMaps.limit l.initial.maps;
}
