use Rattle.std.proofs.Common.{rules, ◌+◌, ◌*◌, ◌<◌, ◌≤◌, length, get_or, arith}
use Rattle.std.proofs.lemmas.List.{get_or_default}
use Rattle.iv_types.specs.declared.value.Kind.{Kind}
use Rattle.iv_types.specs.declared.value.Kind.TheVariants.{Int}
use Rattle.iv_types.specs.Encoding.{row_bytes}
use Rattle.row_codec.proofs.Columns.{written_inside}
use Rattle.row_codec.proofs.LengthLemmas.{measured_more, measured_most, row_short}
use Rattle.row_codec.proofs.lengths.row_len.Goals as goal

pub offset_bounds-values-place : goal.offset_bounds-values-place
offset_bounds-values-place c =
    let lt : c.loop-place.place < length c.args.values.now = written_inside c.loop-place.invariant.written c.loop-place-test.true in
    search rules

pub bounds-values-place : goal.bounds-values-place
bounds-values-place c = written_inside c.loop-place.invariant.written c.loop-place-test.true

pub overflow_add-sum : goal.overflow_add-sum
overflow_add-sum c =
    let k : Kind = get_or c.args.kinds.now c.loop-place.place Int in
    let more = measured_more c.args.kinds.now c.args.values.now c.loop-place.place c.loop-place.sum k c.index-values-place.result c.value_len-sum.result c.loop-place.invariant c.loop-place-test.true
    (get_or_default c.args.kinds.now c.loop-place.place Int k c.loop-place-test.true) c.index-values-place.is c.value_len-sum.ensures in
    let most : c.loop-place.sum + c.value_len-sum.result ≤ length (row_bytes c.args.kinds.now c.args.values.now) = measured_most c.args.kinds.now c.args.values.now _ _ more in
    let short : length (row_bytes c.args.kinds.now c.args.values.now) ≤ 202 * length c.args.kinds.now = row_short c.args.kinds.now c.args.values.now c.requires in
    omega arith

pub loop-place-preserved : goal.loop-place-preserved
loop-place-preserved c =
    let k : Kind = get_or c.args.kinds.now c.loop-place.place Int in
    measured_more c.args.kinds.now c.args.values.now c.loop-place.place c.loop-place.sum k c.index-values-place.result c.value_len-sum.result c.loop-place.invariant c.loop-place-test.true
    (get_or_default c.args.kinds.now c.loop-place.place Int k c.loop-place-test.true) c.index-values-place.is c.value_len-sum.ensures

pub returns-clause-most : goal.returns-clause-most
returns-clause-most c =
    let most : c.loop-place.sum ≤ length (row_bytes c.args.kinds.now c.args.values.now) = measured_most c.args.kinds.now c.args.values.now _ _ c.loop-place.invariant in
    let short : length (row_bytes c.args.kinds.now c.args.values.now) ≤ 202 * length c.args.kinds.now = row_short c.args.kinds.now c.args.values.now c.requires in
    omega arith
