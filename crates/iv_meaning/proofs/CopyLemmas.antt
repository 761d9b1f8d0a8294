-- Copies of definitions define the same.
use Rattle.std.specs.Prelude.{◌≡◌, [], ◌∷◌}
use mathlib.Core.Path.{refl, ap, ◌∙◌}
use Rattle.iv_types.specs.declared.catalog.ViewDef.{ViewDef}
use Rattle.iv_types.specs.declared.catalog.Definition.{Definition}
use Rattle.iv_types.specs.declared.catalog.Definition.TheVariants.{Table, Index, View}
use Rattle.iv_types.specs.Definitions.{IsCopy, IsViewCopy}
use Rattle.iv_types.specs.Trees.{perhaps_tree}
use Rattle.iv_meaning.specs.Schema.{table, index, view}
use Rattle.iv_meaning.specs.Objects.{view_tree, object_of, schema_of, CopiesLaw}

same_view : (copy v : ViewDef) → IsViewCopy copy v → view_tree copy ≡ view_tree v
same_view copy v is =
    ap (λ (t : ViewDef). record (view_tree t) { condition = perhaps_tree copy.condition }) is.rest
    ∙ ap (λ c. record (view_tree v) { condition = c }) is.condition

same_object : (copy d : Definition) → IsCopy copy d → object_of copy ≡ object_of d
same_object (Table copy) (Table d) e = ap table e
same_object (Index copy) (Index d) e = ap index e
same_object (View copy) (View d) e = ap view (same_view copy d e)
same_object (Table copy) (Index d) e = absurd e
same_object (Table copy) (View d) e = absurd e
same_object (Index copy) (Table d) e = absurd e
same_object (Index copy) (View d) e = absurd e
same_object (View copy) (Table d) e = absurd e
same_object (View copy) (Index d) e = absurd e

pub copies_law : CopiesLaw
copies_law [] [] e = refl
copies_law (c ∷ cs) (d ∷ ds) e = ap (λ o. o ∷ schema_of cs) (same_object c d e.0) ∙ ap (λ os. object_of d ∷ os) (copies_law cs ds e.1)
copies_law [] (d ∷ ds) e = absurd e
copies_law (c ∷ cs) [] e = absurd e
