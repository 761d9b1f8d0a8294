use mathlib.Core.Path.{◌∙◌}
use Rattle.iv_meaning.specs.Schema.{Schema, ViewTree, group_kinds}
use Rattle.iv_meaning.specs.Objects.{schema_of, view_tree}
use Rattle.row_eval.proofs.Keeping.{row_at, row_wide, row_group}
use Rattle.row_eval.proofs.kept_view.kept_rows.Goals as goal

pub kept_row-requires-clause-width : goal.kept_row-requires-clause-width
kept_row-requires-clause-width c =
    let objects : Schema = schema_of c.args.catalog.now in
    let v : ViewTree = view_tree c.args.view.now in
    row_wide (group_kinds objects v) v.group c.index-rows-index.result c.as_slice-in-loop-index.result.now c.as_slice-width.result.now
    (row_at objects c.args.tables.now v c.in_ok-rows.rows c.as_slice-rows.result.now c.loop-index.index c.index-rows-index.result c.requires c.in_ok-rows.ensures c.as_slice-rows.ensures c.loop-index-test.true c.index-rows-index.is)
    c.as_slice-width.ensures c.as_slice-in-loop-index.ensures

pub kept_row-requires-clause-fits : goal.kept_row-requires-clause-fits
kept_row-requires-clause-fits c =
    let objects : Schema = schema_of c.args.catalog.now in
    let v : ViewTree = view_tree c.args.view.now in
    row_group (group_kinds objects v) c.as_slice.result.now v.group c.index-rows-index.result c.as_slice-in-loop-index.result.now c.as_slice-width.result.now
    (row_at objects c.args.tables.now v c.in_ok-rows.rows c.as_slice-rows.result.now c.loop-index.index c.index-rows-index.result c.requires c.in_ok-rows.ensures c.as_slice-rows.ensures c.loop-index-test.true c.index-rows-index.is)
    (c.as_slice.ensures ∙ c.in_ok-kinds.ensures) c.as_slice-width.ensures c.as_slice-in-loop-index.ensures
