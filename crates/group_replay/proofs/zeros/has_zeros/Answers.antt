use Rattle.std.proofs.Common.{suc, length, refl}
use Rattle.table_laws.specs.Place.{Place}
use Rattle.group_replay.proofs.Rows.{found_there, stored_row, row_length, tells_zeros}
use Rattle.group_replay.proofs.zeros.has_zeros.Goals as goal

pub are_zeros-requires : goal.are_zeros-requires
are_zeros-requires g c =
    let s = c.args.store.now in
    let place : Place = (c.args.view, c.args.group.now) in
    let q = c.requires.closed in
    let is = found_there g.M.SortedMaps.maps c.maps.result.now s.tables place c.maps.ensures c.args.group.now c.in-Some.stored.now refl c.in-Some.ensures in
    let row = stored_row s.catalog (g.M.SortedMaps.maps s.tables) s.views place c.requires.group q.0 q.1 c.in-Some.stored.now is in
    (suc (length c.requires.group.of.sums), row_length q.0.view place (length c.requires.group.of.sums) c.in-Some.stored.now row)

pub returns-in-Some : goal.returns-in-Some
returns-in-Some g c = λ x k.
    let s = c.args.store.now in
    let place : Place = (c.args.view, c.args.group.now) in
    let is = found_there g.M.SortedMaps.maps c.maps.result.now s.tables place c.maps.ensures c.args.group.now c.in-Some.stored.now refl c.in-Some.ensures in
    tells_zeros s.catalog (g.M.SortedMaps.maps s.tables) s.views place c.requires.group x k c.in-Some.stored.now c.are_zeros.result is c.are_zeros.ensures
