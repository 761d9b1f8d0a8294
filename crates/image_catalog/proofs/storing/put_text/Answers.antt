use Rattle.std.proofs.Common.{◌∙◌}
use Rattle.image_catalog.proofs.Short.{short_long}
use Rattle.image_catalog.proofs.Putting.{can_put, before_same}
use Rattle.image_catalog.proofs.storing.put_text.Goals as goal

pub reserve_parts-requires-after_bounds : goal.reserve_parts-requires-after_bounds
reserve_parts-requires-after_bounds g c κs within = short_long c.args.text.now c.requires.short

pub put_parts-requires-after_bounds : goal.put_parts-requires-after_bounds
put_parts-requires-after_bounds g c κs within =
    let q = c.requires.before in
    let maps = c.reserve_parts.new.maps in (
      q.0,
      c.args.text.now,
      can_put c.args.number (g.M.SortedMaps.maps maps) (g.M.SortedMaps.spare maps 0) (g.M.SortedMaps.limit maps) q.0 c.args.text.now c.in_ok-parts.parts
          (before_same c.args.number (g.M.SortedMaps.maps c.args.maps.now 0) (g.M.SortedMaps.maps maps 0) q.0 (c.reserve_parts.ensures.maps 0) q.1) c.ranges.number.fits c.requires.short
          c.in_ok-parts.ensures c.in_ok-reserve_parts.ensures.room (c.reserve_parts.ensures.limit ∙ c.requires.limit),
    )

pub returns-clause-stored : goal.returns-clause-stored
returns-clause-stored g c = λ texts has.
    let maps = c.reserve_parts.new.maps in
    c.put_parts.ensures.stored texts c.args.text.now
    (can_put c.args.number (g.M.SortedMaps.maps maps) (g.M.SortedMaps.spare maps 0) (g.M.SortedMaps.limit maps) texts c.args.text.now c.in_ok-parts.parts
    (before_same c.args.number (g.M.SortedMaps.maps c.args.maps.now 0) (g.M.SortedMaps.maps maps 0) texts (c.reserve_parts.ensures.maps 0) has) c.ranges.number.fits c.requires.short
    c.in_ok-parts.ensures c.in_ok-reserve_parts.ensures.room (c.reserve_parts.ensures.limit ∙ c.requires.limit))
