use Rattle.std.proofs.Common.{◌≡◌, sym, ap, subst, ◌∙◌}
use Rattle.lock_manager.specs.Table.{waiting_of}
use Rattle.table_laws.specs.Place.{Place}
use Rattle.txn_machine.specs.Acts as act
use Rattle.log_room.specs.Rooms.{IsRoomOf}
use Rattle.log_room.specs.declared.room.LogRoom.{LogRoom}
use Rattle.core_state.specs.declared.state.CoreState.{CoreState}
use Rattle.core_upkeep.proofs.Removed.{full_told, fits_exact, removed_told}
use Rattle.core_upkeep.proofs.cleaning.remove_first.Goals as goal

pub remove-requires-after_bounds : goal.remove-requires-after_bounds
remove-requires-after_bounds g c κs within = (c.requires.0, c.requires.1, c.requires.2.is)

pub returns-in-Some-clause-err : goal.returns-in-Some-clause-err
returns-in-Some-clause-err g c = λ s h first.
    let place : Place = (c.args.view, c.args.group.now) in
    let full = c.in-Some.ensures.some s.store s.log h.reserves.log_room in
    full_told g.M.SortedMaps.maps g.M.SortedMaps.spare g.M.SortedMaps.limit c.args.core.now s h place first c.group_bytes-need.result c.group_bytes-need.ensures c.in-Some.why full.0 full.1

pub returns-in-None-clause-ok : goal.returns-in-None-clause-ok
returns-in-None-clause-ok g c = λ s h first.
    let core = c.args.core.now in
    let place : Place = (c.args.view, c.args.group.now) in
    let need = c.group_bytes-need.result in
    let is = c.group_bytes-need.ensures in
    let fits = c.in-None.ensures.none s.store s.log h.reserves.log_room in
    let new = c.remove.new.core in
    let rest = c.remove.ensures.rest in
    let same : new.log_room ≡ core.log_room = ap (λ (x : CoreState g.row.M.Denot). x.log_room) rest in
    removed_told g.M.SortedMaps.maps g.M.SortedMaps.spare g.M.SortedMaps.limit core s h place first need is new c.clean.new.self fits (c.remove.ensures.holds s h first.is) (ap (λ (x : CoreState g.row.M.Denot). x.data_room) rest)
    (c.clean.ensures.room s.store s.log 0 act.Clean place is (subst (λ (x : LogRoom). IsRoomOf x s.store s.log) (sym same) h.reserves.log_room) (fits_exact g.M.SortedMaps.maps g.M.SortedMaps.spare g.M.SortedMaps.limit core s h place first need is new.log_room same fits))
    (record {
      steps = ap (λ (x : CoreState g.row.M.Denot). x.steps) rest;
      seats = ap (λ (x : CoreState g.row.M.Denot). x.seats) rest;
      cleaner = ap (λ (x : CoreState g.row.M.Denot). x.cleaner) rest;
      stop = ap (λ (x : CoreState g.row.M.Denot). x.stop) rest;
      limit = ap (λ (x : CoreState g.row.M.Denot). x.data_room.limit) rest;
      log_limit = c.clean.ensures.limit ∙ ap (λ (x : LogRoom). x.limit) same;
    })
    (λ j. ap (λ (x : CoreState g.row.M.Denot). waiting_of x.locks j) rest)
