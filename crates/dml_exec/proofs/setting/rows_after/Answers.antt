use Rattle.std.proofs.Common.{◌≡◌, ◌+◌, List, Option, Err, drop, map}
use mathlib.Core.Path.{sym, ap, subst, ◌∙◌}
use Rattle.std.proofs.lemmas.Result.{err_from_is_err_and}
use Rattle.iv_types.specs.declared.value.Kind.{Kind}
use Rattle.iv_types.specs.Encoding.{kinds_of}
use Rattle.iv_meaning.specs.Database.{Row}
use Rattle.iv_meaning.specs.Bound.{set_tree}
use Rattle.iv_meaning.specs.Grouping.{all_of}
use Rattle.iv_meaning.specs.Statement.{columns_after, row_after}
use Rattle.row_eval.specs.Grouped.{Gives}
use Rattle.row_eval.proofs.Groups.{refused_alike}
use Rattle.row_eval.proofs.Collecting.{behind, stops}
use Rattle.dml_exec.proofs.Columns.{next_row}
use Rattle.dml_exec.proofs.setting.rows_after.Goals as goal

pub returns-in_err-values_after : goal.returns-in_err-values_after
returns-in_err-values_after c =
    let ss = map set_tree c.args.sets.now in
    let f = row_after c.args.table.now ss in
    let row = c.index-rows-index.result in
    let i = c.loop-index.index in
    let p = err_from_is_err_and c.from_residual-in_err-values_after.result c.from_residual-in_err-values_after.ensures.1 in
    let whole : Option (List Row) = all_of (map f c.args.rows.now) in
    let kinds : c.as_slice.result.now ≡ kinds_of c.args.table.now = c.as_slice.ensures ∙ c.in_ok-kinds.ensures in
    subst (Gives whole) (sym p.1) (subst (λ r. Gives whole (Err r)) (sym p.2)
    (refused_alike (f row) whole c.in_err-values_after.field-0.0
    (λ e. sym c.loop-index.invariant
    ∙ (ap (behind c.loop-index.after) (next_row f c.args.rows.now i row c.loop-index-test.true c.index-rows-index.is)
    ∙ stops c.loop-index.after (f row) (map f (drop (i + 1) c.args.rows.now)) e))
    (subst (λ (ks : List Kind). Gives (all_of (columns_after ss row ks 0 row)) (Err c.in_err-values_after.field-0.0)) kinds c.in_err-values_after.ensures)))
