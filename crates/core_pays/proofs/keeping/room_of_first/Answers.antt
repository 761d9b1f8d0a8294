use Rattle.data_room.specs.Reserved.{first_bytes}
use Rattle.core_effects.proofs.Deltas.{owes_some}
use Rattle.core_pays.proofs.Reserving.{is_open, first_told}
use Rattle.core_pays.proofs.keeping.room_of_first.Goals as goal

pub open_of-requires-after_bounds : goal.open_of-requires-after_bounds
open_of-requires-after_bounds g c κs within = is_open g.M.SortedMaps.maps g.M.SortedMaps.spare g.M.SortedMaps.limit c.args.core.now c.requires.0 c.requires.1 c.requires.2 c.args.session c.requires.3 c.requires.4

pub first_room-requires : goal.first_room-requires
first_room-requires g c = owes_some g.M.SortedMaps.maps g.M.SortedMaps.spare g.M.SortedMaps.limit c.args.core.now c.requires.0 c.requires.1 c.requires.2 c.args.session c.requires.3 c.requires.4 c.open_of.result.now c.open_of.ensures

pub returns : goal.returns
returns g c = λ s l texts o h. first_told g.M.SortedMaps.maps g.M.SortedMaps.spare g.M.SortedMaps.limit c.args.core.now s l texts c.args.session h o c.open_of.result.now c.open_of.ensures first_bytes c.first_room.result c.first_room.ensures
