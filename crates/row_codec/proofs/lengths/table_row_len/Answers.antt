use Rattle.std.proofs.Common.{◌+◌, ◌*◌, ◌<◌, ◌≤◌, List, length, arith, sym, ap, subst, ◌∙◌}
use Rattle.iv_types.specs.declared.statement.ColumnDef.{ColumnDef}
use Rattle.iv_types.specs.declared.value.Value.{Value}
use Rattle.iv_types.specs.Encoding.{kinds_of, FitAll, value_bytes, row_bytes}
use Rattle.row_codec.proofs.Columns.{written_inside, kind_at, count_kinds}
use Rattle.row_codec.proofs.LengthLemmas.{measured_more, measured_most, row_short}
use Rattle.row_codec.proofs.lengths.table_row_len.Goals as goal

pub bounds-values-place : goal.bounds-values-place
bounds-values-place c =
    let lt : c.loop-place.place < length (kinds_of c.args.table.now) = omega (arith, c.loop-place-test.true, count_kinds c.args.table.now c.as_slice-columns.result.now c.as_slice-columns.ensures) in
    written_inside c.loop-place.invariant.written lt

pub overflow_add-sum : goal.overflow_add-sum
overflow_add-sum c =
    let t = c.args.table.now in
    let values : List Value = c.as_slice-values.result.now in
    let columns = c.as_slice-columns.result.now in
    let count = count_kinds t columns c.as_slice-columns.ensures in
    let lt : c.loop-place.place < length (kinds_of t) = omega (arith, c.loop-place-test.true, count) in
    let more = measured_more (kinds_of t) values c.loop-place.place c.loop-place.sum c.index-columns-place.result.kind c.index-values-place.result c.value_len-sum.result c.loop-place.invariant lt
    (kind_at t columns c.loop-place.place c.index-columns-place.result c.as_slice-columns.ensures c.loop-place-test.true c.index-columns-place.is) c.index-values-place.is
    (c.value_len-sum.ensures ∙ ap (λ (d : ColumnDef). length (value_bytes d.kind c.index-values-place.result)) (sym c.index-columns-place.is)) in
    let most : c.loop-place.sum + c.value_len-sum.result ≤ length (row_bytes (kinds_of t) values) = measured_most (kinds_of t) values _ _ more in
    let short : length (row_bytes (kinds_of t) values) ≤ 202 * length (kinds_of t) = row_short (kinds_of t) values (subst (FitAll (kinds_of t)) (sym c.as_slice-values.ensures) c.requires) in
    omega (arith, count)

pub loop-place-preserved : goal.loop-place-preserved
loop-place-preserved c =
    let t = c.args.table.now in
    let columns = c.as_slice-columns.result.now in
    let lt : c.loop-place.place < length (kinds_of t) = omega (arith, c.loop-place-test.true, count_kinds t columns c.as_slice-columns.ensures) in
    measured_more (kinds_of t) c.as_slice-values.result.now c.loop-place.place c.loop-place.sum c.index-columns-place.result.kind c.index-values-place.result c.value_len-sum.result c.loop-place.invariant lt
    (kind_at t columns c.loop-place.place c.index-columns-place.result c.as_slice-columns.ensures c.loop-place-test.true c.index-columns-place.is) c.index-values-place.is
    (c.value_len-sum.ensures ∙ ap (λ (d : ColumnDef). length (value_bytes d.kind c.index-values-place.result)) (sym c.index-columns-place.is))

pub returns-clause-most : goal.returns-clause-most
returns-clause-most c =
    let t = c.args.table.now in
    let values : List Value = c.as_slice-values.result.now in
    let count = count_kinds t c.as_slice-columns.result.now c.as_slice-columns.ensures in
    let most : c.loop-place.sum ≤ length (row_bytes (kinds_of t) values) = measured_most (kinds_of t) values _ _ c.loop-place.invariant in
    let short : length (row_bytes (kinds_of t) values) ≤ 202 * length (kinds_of t) = row_short (kinds_of t) values (subst (FitAll (kinds_of t)) (sym c.as_slice-values.ensures) c.requires) in
    omega (arith, count)
