use Rattle.std.proofs.Common.{◌<◌, length, arith}
use Rattle.row_codec.proofs.Columns.{written_inside, written_fits, written_more, kind_at, count_kinds}
use Rattle.iv_types.specs.Encoding.{kinds_of}
use Rattle.row_codec.proofs.rows.encode_row.Goals as goal

pub bounds-values-place : goal.bounds-values-place
bounds-values-place c =
    let lt : c.loop-place.place < length (kinds_of c.args.table.now) = omega (arith, c.loop-place-test.true, count_kinds c.args.table.now c.as_slice-column-items.result.now c.as_slice-column-items.ensures) in
    written_inside c.loop-place.invariant lt

pub put_value-requires : goal.put_value-requires
put_value-requires c =
    let lt : c.loop-place.place < length (kinds_of c.args.table.now) = omega (arith, c.loop-place-test.true, count_kinds c.args.table.now c.as_slice-column-items.result.now c.as_slice-column-items.ensures) in
    written_fits c.loop-place.invariant c.column-item.result.kind c.index-values-place.result lt
    (kind_at c.args.table.now c.as_slice-column-items.result.now c.loop-place.place c.column-item.result c.as_slice-column-items.ensures c.loop-place-test.true c.column-item.is) c.index-values-place.is

pub loop-place-preserved : goal.loop-place-preserved
loop-place-preserved c =
    let lt : c.loop-place.place < length (kinds_of c.args.table.now) = omega (arith, c.loop-place-test.true, count_kinds c.args.table.now c.as_slice-column-items.result.now c.as_slice-column-items.ensures) in
    written_more c.loop-place.invariant c.column-item.result.kind c.index-values-place.result c.put_value.new.out.items lt
    (kind_at c.args.table.now c.as_slice-column-items.result.now c.loop-place.place c.column-item.result c.as_slice-column-items.ensures c.loop-place-test.true c.column-item.is) c.index-values-place.is c.in_ok-put_value.ensures
