use Rattle.std.proofs.Common.{◌≡◌, ◌++◌, drop}
use Rattle.std.specs.List.{AllByRecursion, flat_map}
use Rattle.iv_meaning.specs.Database.{Rows}
use Rattle.iv_meaning.specs.Objects.{schema_of}
use Rattle.txn_machine.specs.Deltas as machine
use Rattle.txn_machine.specs.Deltas.{owed_to, views_of}
use Rattle.txn_machine.specs.ViewLaws.{IsJoined}
use Rattle.txn_machine.specs.RowChanges.{row_change}
use Rattle.view_delta.specs.Owing.{Finds}
use Rattle.view_delta.proofs.all_views.owed.Given as goal

abbrev pub invariant-loop-definition : goal.invariant-loop-definition
invariant-loop-definition g l = record {
  left : AllByRecursion (IsJoined (schema_of l.catalog)) (views_of (schema_of (drop l.definition-index l.definition-items)));
  owed : (rows : Rows) → Finds l.catalog (g.M.SortedMaps.maps l.tables) l.change rows
      → l.owed ++ flat_map (owed_to (schema_of l.catalog) rows (row_change l.change)) (views_of (schema_of (drop l.definition-index l.definition-items)))
      ≡ machine.owed (schema_of l.catalog) rows (row_change l.change);
}
