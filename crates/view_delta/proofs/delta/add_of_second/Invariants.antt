use Rattle.std.proofs.Common.{◌≡◌, ◌++◌, ◌∷◌, [], drop}
use Rattle.std.specs.Prelude.{IfSome}
use Rattle.std.specs.List.{flat_map, AllByRecursion}
use Rattle.iv_meaning.specs.Objects.{schema_of, view_tree}
use Rattle.view_delta.specs.Parts.{FitTables, owed_for}
use Rattle.view_delta.proofs.delta.add_of_second.Given as goal

abbrev pub invariant-loop-index : goal.invariant-loop-index
invariant-loop-index l = record {
  before : IfSome l.change.before (λ other. AllByRecursion (λ row. FitTables (schema_of l.catalog) (view_tree l.view) (row ∷ other ∷ [])) (drop l.index l.rows));
  after : IfSome l.change.after (λ other. AllByRecursion (λ row. FitTables (schema_of l.catalog) (view_tree l.view) (row ∷ other ∷ [])) (drop l.index l.rows));
  owed : l.owed ++ flat_map (owed_for (schema_of l.catalog) (view_tree l.view) l.change.before l.change.after) (drop l.index l.rows)
      ≡ l.fn.owed ++ flat_map (owed_for (schema_of l.catalog) (view_tree l.view) l.change.before l.change.after) l.rows;
}
