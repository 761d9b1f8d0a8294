use Rattle.std.proofs.Common.{◌<◌, ◌≤◌, length, arith, refl}
use Rattle.std.proofs.lemmas.Result.{err_from_is_err_and}
use Rattle.row_codec.proofs.Columns.{taken_more, taken_fails, taken_over, some_left, kind_at, count_kinds}
use Rattle.iv_types.specs.BadRow.{RowBreaks}
use Rattle.iv_types.specs.Encoding.{kinds_of}
use Rattle.row_codec.proofs.rows.columns_of.Goals as goal

pub returns-in_err-value-clause-fault : goal.returns-in_err-value-clause-fault
returns-in_err-value-clause-fault c =
    let p = err_from_is_err_and c.from_residual.result c.from_residual.ensures.1 in
    let lt : c.loop-column.column-index < length (kinds_of c.args.table.now) = omega (arith, c.loop-column-test.true, count_kinds c.args.table.now c.as_slice-column-items.result.now c.as_slice-column-items.ensures) in
    rw (p.1, p.2) (taken_fails RowBreaks c.loop-column.invariant c.column-item.result.kind lt
    (kind_at c.args.table.now c.as_slice-column-items.result.now c.loop-column.column-index c.column-item.result c.as_slice-column-items.ensures c.loop-column-test.true c.column-item.is) refl c.in_err-value.field-0.0 c.in_err-value.ensures.broken)

pub loop-column-preserved : goal.loop-column-preserved
loop-column-preserved c =
    let lt : c.loop-column.column-index < length (kinds_of c.args.table.now) = omega (arith, c.loop-column-test.true, count_kinds c.args.table.now c.as_slice-column-items.result.now c.as_slice-column-items.ensures) in
    rw c.in_ok-push.ensures.items (taken_more c.loop-column.invariant c.column-item.result.kind c.in_ok-value.value c.in_ok-value.after.now lt
    (kind_at c.args.table.now c.as_slice-column-items.result.now c.loop-column.column-index c.column-item.result c.as_slice-column-items.ensures c.loop-column-test.true c.column-item.is) c.in_ok-value.ensures.taken.0 c.in_ok-value.ensures.taken.1)

pub returns-then-not-is_empty-clause-fault : goal.returns-then-not-is_empty-clause-fault
returns-then-not-is_empty-clause-fault c =
    let le : length (kinds_of c.args.table.now) ≤ c.loop-column.column-index = omega (arith, c.loop-column-test.false, count_kinds c.args.table.now c.as_slice-column-items.result.now c.as_slice-column-items.ensures) in
    taken_over c.loop-column.invariant _ le (some_left (length c.loop-column.rest.now) c.is_empty.result c.is_empty.ensures c.if-not-is_empty.true) refl
