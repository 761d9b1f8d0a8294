use Rattle.std.proofs.Common.{◌≡◌, ◌≤◌, arith, ◌∙◌}
use Rattle.iv_types.specs.Maps.{last_index}
use Rattle.map_copying.proofs.Below.{next_fits}
use Rattle.map_copying.proofs.copying.copy_maps.Goals as goal

pub copy_index-requires-clause-held : goal.copy_index-requires-clause-held
copy_index-requires-clause-held g c κs within = λ key value is.
    let lt = c.loop-index-test.true in
    c.requires.held c.loop-index.index key value (omega (arith, lt)) is

pub copy_index-requires-clause-limit : goal.copy_index-requires-clause-limit
copy_index-requires-clause-limit g c κs within =
    let q = c.requires.limit in
    let lt = c.loop-index-test.true in
    let low : c.loop-index.index ≤ last_index = omega (arith, lt) in
    (q.0, c.loop-index.invariant.limit ∙ q.1, q.2, next_fits (g.A.SortedMaps.maps c.args.from.now) (g.B.SortedMaps.maps c.loop-index.to) c.loop-index.index q.0 low c.loop-index.invariant.done c.loop-index.invariant.rest q.3)
