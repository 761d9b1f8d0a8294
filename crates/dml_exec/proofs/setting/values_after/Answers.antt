use Rattle.std.proofs.Common.{◌+◌, arith, List, Option, Ok, Err, get_or, drop, map}
use mathlib.Core.Path.{refl, sym, ap, subst, ◌∙◌}
use Rattle.std.proofs.lemmas.Result.{err_from_is_err_and}
use Rattle.iv_types.specs.declared.value.Kind.TheVariants.{Int}
use Rattle.iv_types.specs.declared.value.Value.{Value}
use Rattle.iv_meaning.specs.Bound.{set_tree}
use Rattle.iv_meaning.specs.Grouping.{all_of}
use Rattle.iv_meaning.specs.Statement.{column_after, columns_after}
use Rattle.row_eval.specs.Grouped.{Gives}
use Rattle.row_eval.proofs.Groups.{refused_alike}
use Rattle.row_eval.proofs.Collecting.{behind, stops, ends}
use Rattle.dml_exec.proofs.Columns.{next_column, no_more_columns}
use Rattle.dml_exec.proofs.setting.values_after.Goals as goal

pub returns-in_err-value_after : goal.returns-in_err-value_after
returns-in_err-value_after c =
    let ss = map set_tree c.args.sets.now in
    let row = c.args.row.now in
    let i = c.loop-place.place in
    let p = err_from_is_err_and c.from_residual.result c.from_residual.ensures.1 in
    let whole : Option (List Value) = all_of (columns_after ss row c.args.kinds.now 0 row) in
    let one : Option Value = column_after ss row (get_or c.args.kinds.now i Int) i c.index-values-place.result in
    subst (Gives whole) (sym p.1) (subst (λ r. Gives whole (Err r)) (sym p.2)
    (refused_alike one whole c.in_err-value_after.field-0.0
    (λ e. sym c.loop-place.invariant
    ∙ (ap (behind c.loop-place.after) (next_column ss row c.args.kinds.now c.as_slice-values.result.now i Int c.index-values-place.result (omega (arith, c.if-place-kinds.false)) c.loop-place-test.true c.index-values-place.is)
    ∙ stops c.loop-place.after one (columns_after ss row (drop (i + 1) c.args.kinds.now) (i + 1) (drop (i + 1) c.as_slice-values.result.now)) e))
    c.in_err-value_after.ensures))

pub returns : goal.returns
returns c =
    subst (λ o. Gives o (Ok c.loop-place.after))
    (sym (ap (behind c.loop-place.after) (no_more_columns (map set_tree c.args.sets.now) c.args.row.now c.args.kinds.now c.as_slice-values.result.now c.loop-place.place c.loop-place-test.false) ∙ ends c.loop-place.after) ∙ c.loop-place.invariant) refl
