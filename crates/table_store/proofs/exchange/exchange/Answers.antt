use Rattle.std.proofs.Common.{◌+◌}
use Rattle.table_store.specs.Changes.{how_many}
use Rattle.table_store.proofs.Rooms.{places_more}
use Rattle.table_store.proofs.exchange.exchange.Goals as goal

pub put_in-requires-clause-absent : goal.put_in-requires-clause-absent
put_in-requires-clause-absent g c κs within = c.requires.absent (g.M.SortedMaps.maps c.take_out.new.maps) c.take_out.ensures.out

pub put_in-requires-clause-places : goal.put_in-requires-clause-places
put_in-requires-clause-places g c κs within =
    let spare = g.M.SortedMaps.spare in
    places_more (λ n. spare c.args.maps.now n + how_many n c.args.gone.now) (spare c.take_out.new.maps) c.args.made c.take_out.ensures.room c.requires.places
