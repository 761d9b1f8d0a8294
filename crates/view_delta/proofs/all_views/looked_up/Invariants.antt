use Rattle.std.proofs.Common.{◌≡◌, ◌++◌, ℕ, drop}
use Rattle.std.specs.List.{AllByRecursion}
use Rattle.iv_meaning.specs.Database.{Rows}
use Rattle.iv_meaning.specs.Objects.{schema_of}
use Rattle.table_store.specs.Stored.{CanRead, HoldsRead}
use Rattle.view_delta.specs.Parts.{rows_read}
use Rattle.view_delta.proofs.all_views.looked_up.Given as goal

abbrev pub invariant-loop-index : goal.invariant-loop-index
invariant-loop-index g l = record {
  left : AllByRecursion (λ want. CanRead l.catalog (g.M.SortedMaps.maps l.tables) want.index) (drop l.index l.wants);
  found : (rows : Rows) → ((number : ℕ) → HoldsRead l.catalog rows (g.M.SortedMaps.maps l.tables) number)
      → l.found ++ rows_read (schema_of l.catalog) rows (drop l.index l.wants) ≡ rows_read (schema_of l.catalog) rows l.wants;
}
