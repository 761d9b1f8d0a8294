use Rattle.definition_parts.proofs.Texts.{can_put, put_is}
use Rattle.definition_parts.proofs.storing.put_parts.Goals as goal

pub put_all-requires-after_bounds : goal.put_all-requires-after_bounds
put_all-requires-after_bounds g c κs within =
    let q = c.requires in
    can_put (g.M.SortedMaps.maps c.args.maps.now) (g.M.SortedMaps.spare c.args.maps.now 0) (g.M.SortedMaps.limit c.args.maps.now) q.0 q.1 c.args.parts q.2

pub returns-clause-stored : goal.returns-clause-stored
returns-clause-stored g c = λ texts text can.
    put_is (g.M.SortedMaps.maps c.args.maps.now) (g.M.SortedMaps.spare c.args.maps.now 0) (g.M.SortedMaps.limit c.args.maps.now) texts text c.args.parts can (g.M.SortedMaps.maps c.put_all.new.maps 0) c.put_all.ensures.map
