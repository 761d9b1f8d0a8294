use Rattle.std.proofs.Common.{rules, ◌<◌, length, get_or}
use Rattle.std.proofs.lemmas.List.{get_or_default}
use Rattle.iv_types.specs.declared.value.Kind.TheVariants.{Int}
use Rattle.row_codec.proofs.Columns.{written_inside, written_fits, written_more}
use Rattle.row_codec.proofs.keys.encode_key.Goals as goal

pub offset_bounds-values-place : goal.offset_bounds-values-place
offset_bounds-values-place c =
    let lt : c.loop-place.place < length c.args.values.now = written_inside c.loop-place.invariant c.loop-place-test.true in
    search rules

pub bounds-values-place : goal.bounds-values-place
bounds-values-place c = written_inside c.loop-place.invariant c.loop-place-test.true

pub put_value-requires : goal.put_value-requires
put_value-requires c =
    written_fits c.loop-place.invariant (get_or c.args.kinds.now c.loop-place.place Int) c.index-values-place.result c.loop-place-test.true
    (get_or_default c.args.kinds.now c.loop-place.place Int (get_or c.args.kinds.now c.loop-place.place Int) c.loop-place-test.true) c.index-values-place.is

pub loop-place-preserved : goal.loop-place-preserved
loop-place-preserved c =
    written_more c.loop-place.invariant (get_or c.args.kinds.now c.loop-place.place Int) c.index-values-place.result c.put_value.new.out.items c.loop-place-test.true
    (get_or_default c.args.kinds.now c.loop-place.place Int (get_or c.args.kinds.now c.loop-place.place Int) c.loop-place-test.true) c.index-values-place.is c.in_ok-put_value.ensures
