use Rattle.std.proofs.Common.{◌≡◌, ◌++◌, drop}
use Rattle.std.specs.List.{flat_map, AllByRecursion}
use Rattle.iv_meaning.specs.Objects.{schema_of}
use Rattle.txn_machine.specs.Deltas.{look_ups, views_of}
use Rattle.txn_machine.specs.ViewLaws.{IsJoined}
use Rattle.txn_machine.specs.RowChanges.{row_change}
use Rattle.view_delta.proofs.wants.add_all_needs.Given as goal

abbrev pub invariant-loop-definition : goal.invariant-loop-definition
invariant-loop-definition l = record {
  left : AllByRecursion (IsJoined (schema_of l.catalog)) (views_of (schema_of (drop l.definition-index l.definition-items)));
  added : l.wants ++ flat_map (look_ups (schema_of l.catalog) (row_change l.change)) (views_of (schema_of (drop l.definition-index l.definition-items)))
      ≡ l.initial.wants ++ flat_map (look_ups (schema_of l.catalog) (row_change l.change)) (views_of (schema_of l.definition-items));
}
