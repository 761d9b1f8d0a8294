use Rattle.std.proofs.Common.{◌∙◌, ◌∷◌, []}
use Rattle.iv_meaning.specs.Objects.{schema_of, view_tree}
use Rattle.iv_meaning.specs.Reading.{by_columns}
use Rattle.view_delta.specs.Parts.{FitTables}
use Rattle.view_delta.proofs.Fits.{sorted_fit}
use Rattle.view_delta.proofs.delta.add_of_looked_up.Goals as goal

pub add_of_second-requires-clause-before : goal.add_of_second-requires-clause-before
add_of_second-requires-clause-before c =
    sorted_fit (λ other row. FitTables (schema_of c.args.catalog.now) (view_tree c.args.view.now) (row ∷ other ∷ [])) (by_columns c.primary_of.result.now) c.args.change.now.before c.args.joined c.as_slice.result.now
    (c.as_slice.ensures ∙ c.in_ok-rows.ensures) c.requires.before

pub add_of_second-requires-clause-after : goal.add_of_second-requires-clause-after
add_of_second-requires-clause-after c =
    sorted_fit (λ other row. FitTables (schema_of c.args.catalog.now) (view_tree c.args.view.now) (row ∷ other ∷ [])) (by_columns c.primary_of.result.now) c.args.change.now.after c.args.joined c.as_slice.result.now
    (c.as_slice.ensures ∙ c.in_ok-rows.ensures) c.requires.after
