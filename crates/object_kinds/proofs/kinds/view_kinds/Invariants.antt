use Rattle.std.proofs.Common.{◌≡◌, ◌++◌, map, drop}
use Rattle.iv_types.specs.declared.value.Kind.TheVariants.{Huge}
use Rattle.iv_meaning.specs.Schema.{object_kinds, view}
use Rattle.iv_meaning.specs.Objects.{schema_of, view_tree}
use Rattle.object_kinds.proofs.kinds.view_kinds.Given as goal

abbrev pub invariant-loop : goal.invariant-loop
invariant-loop l = l.kinds ++ map (λ sum. Huge) (drop l.index l.items) ≡ object_kinds (schema_of l.catalog) (view (view_tree l.view))
