use Rattle.std.proofs.Common.{◌≡◌, drop, [], ◌∷◌}
use Rattle.std.specs.List.{AllByRecursion}
use Rattle.iv_meaning.specs.Objects.{schema_of, view_tree}
use Rattle.view_delta.specs.Parts.{FitTables, first_contributed}
use Rattle.view_delta.proofs.contribution.first_contributed.Given as goal

abbrev pub invariant-loop-index : goal.invariant-loop-index
invariant-loop-index l = record {
  left : AllByRecursion (λ other. FitTables (schema_of l.catalog) (view_tree l.view) (l.row ∷ other ∷ [])) (drop l.index l.others);
  same : first_contributed (schema_of l.catalog) (view_tree l.view) l.row (drop l.index l.others) ≡ first_contributed (schema_of l.catalog) (view_tree l.view) l.row l.others;
}
