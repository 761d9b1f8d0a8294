use Rattle.std.proofs.Common.{arith}
use Rattle.table_store.proofs.LengthLemmas.{places_more}
use Rattle.table_store.proofs.lengths.places_len.Goals as goal

pub loop-place-preserved : goal.loop-place-preserved
loop-place-preserved c = record {
  most = omega (arith, c.place_len-sum.ensures.most);
  told = places_more c.args.table.now c.args.places.now c.loop-place.place-index c.args.row.now c.loop-place.sum c.place_len-sum.result _ c.requires c.loop-place-test.true c.place_len-sum.ensures.len c.loop-place.invariant.told;
}
