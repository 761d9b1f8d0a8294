use Rattle.std.proofs.Common.{◌≡◌, ◌≤◌, ◌<◌, ℕ, Some}
use Rattle.std.specs.Prelude.{slice_get}
use Rattle.iv_types.specs.declared.catalog.IndexDef.{IndexDef}
use Rattle.iv_types.specs.declared.catalog.Definition.TheVariants.{Index}
use Rattle.table_store.proofs.exchange.make_room.Given as goal

abbrev pub invariant-loop-definition : goal.invariant-loop-definition
invariant-loop-definition g l = record {
  primary : l.more ≤ g.M.SortedMaps.spare l.maps l.table.number;
  secondary : (p : ℕ) → p < l.definition-index → (i : IndexDef) → slice_get l.definition-items p ≡ Some (Index i) → i.table ≡ l.table.number → l.more ≤ g.M.SortedMaps.spare l.maps i.number;
  maps : (n : ℕ) → g.M.SortedMaps.maps l.maps n ≡ g.M.SortedMaps.maps l.fn.maps n;
  spare : (n : ℕ) → g.M.SortedMaps.spare l.fn.maps n ≤ g.M.SortedMaps.spare l.maps n;
  limit : g.M.SortedMaps.limit l.maps ≡ g.M.SortedMaps.limit l.fn.maps;
}
