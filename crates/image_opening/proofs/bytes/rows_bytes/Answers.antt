use Rattle.std.proofs.Common.{◌≡◌, suc, ◌+◌, ap, arith}
use Rattle.iv_types.specs.Maps.{size_below}
use Rattle.iv_types.proofs.MapSizes.{size-more, size-none}
use Rattle.image_opening.proofs.Sizes.{first_counts}
use Rattle.image_opening.proofs.bytes.rows_bytes.Goals as goal

pub loop-index-init : goal.loop-index-init
loop-index-init g c =
    let maps = g.M.SortedMaps.maps c.args.maps.now in
    record {
      told = let none = size-none maps in let more = size-more maps 0 in omega (arith, none, more);
      least = omega arith;
      most = omega arith;
    }

pub loop-index-preserved : goal.loop-index-preserved
loop-index-preserved g c =
    let maps = g.M.SortedMaps.maps c.args.maps.now in
    let n = c.loop-index.index in
    let told = c.loop-index.invariant.told in
    let least = c.loop-index.invariant.least in
    let one = c.index_bytes.ensures in
    let both = c.saturating_add-bytes.ensures in
    let more = size-more maps n in
    let next : size_below maps (n + 1) ≡ size_below maps (suc n) = ap (size_below maps) (let e : n + 1 ≡ suc n = omega arith in e) in
    let first = first_counts maps n least in
    let inside = c.loop-index-test.true in
    record {
      told = omega (arith, told, one, both, more, next, first);
      least = omega arith;
      most = omega (arith, inside);
    }
