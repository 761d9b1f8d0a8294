use Rattle.std.proofs.Common.{false, length, refl, sym, ap, subst, arith, ◌∙◌}
use Rattle.std.specs.FinMap.{get}
use Rattle.txn_machine.specs.Acts as act
use Rattle.txn_machine.specs.Deltas.{place_of, columns_of}
use Rattle.txn_machine.specs.Ghosts.{the_views}
use Rattle.txn_machine.specs.Log.{logs}
use Rattle.txn_machine.specs.Counts.{told_need}
use Rattle.txn_machine.specs.Steps.{with_ghost}
use Rattle.txn_machine.specs.Store.{Ghosts, does}
use Rattle.txn_machine.proofs.LogRoom.{logs_logged}
use Rattle.data_room.specs.declared.room.DataRoom.{DataRoom}
use Rattle.data_room.proofs.Kept.{same_again}
use Rattle.log_room.specs.Rooms.{IsRoomOf, ghost_left}
use Rattle.log_room.specs.declared.room.LogRoom.{LogRoom}
use Rattle.core_state.specs.declared.state.CoreState.{CoreState}
use Rattle.core_effects.proofs.Results.{on_err_of}
use Rattle.core_pays.proofs.Firsts.{owes_first, logged_first}
use Rattle.core_pays.proofs.Ghosted.{none_of, there_told, made_told, ghosted_underway, began_by, can_store_first, no_ghost, ghosted_reserved}
use Rattle.core_pays.proofs.Reserving.{rooms_hold, rooms_underway, reserves_as}
use Rattle.core_pays.proofs.ghosting.make_ghost.Goals as goal
use Rattle.core_state.specs.Stands.{its_texts}

pub room_of_first-room-requires-after_bounds : goal.room_of_first-room-requires-after_bounds
room_of_first-room-requires-after_bounds g c κs within =
    let s = c.requires.0 in
    let h = c.requires.1 in
    (s.store, s.log, (its_texts s), h.holds, owes_first g.M.SortedMaps.maps g.M.SortedMaps.spare g.M.SortedMaps.limit c.args.core.now s c.args.session h c.requires.2.0)

pub ghost_of_first-for_ghost-requires-after_bounds : goal.ghost_of_first-for_ghost-requires-after_bounds
ghost_of_first-for_ghost-requires-after_bounds g c κs within =
    let s = c.requires.0 in
    let h = c.requires.1 in
    (s.store, s.log, (its_texts s), h.holds, owes_first g.M.SortedMaps.maps g.M.SortedMaps.spare g.M.SortedMaps.limit c.args.core.now s c.args.session h c.requires.2.0)

pub give_back-requires : goal.give_back-requires
give_back-requires g c = let is = c.requires.2.0.goes_on.of_session in omega (arith, is)

pub give_back-requires-2 : goal.give_back-requires-2
give_back-requires-2 g c = let is = c.requires.2.0.goes_on.of_session in omega (arith, is)

pub has_row-requires-after_bounds : goal.has_row-requires-after_bounds
has_row-requires-after_bounds g c κs within =
    let s = c.requires.0 in
    let h = c.requires.1 in
    (s.store, s.log, (its_texts s), h.holds, owes_first g.M.SortedMaps.maps g.M.SortedMaps.spare g.M.SortedMaps.limit c.args.core.now s c.args.session h c.requires.2.0)

pub make_row-requires-clause-absent : goal.make_row-requires-clause-absent
make_row-requires-clause-absent g c κs within =
    let s = c.requires.0 in
    let h = c.requires.1 in
    let o = owes_first g.M.SortedMaps.maps g.M.SortedMaps.spare g.M.SortedMaps.limit c.args.core.now s c.args.session h c.requires.2.0 in (
      s.store,
      s.log,
      (its_texts s),
      h.holds,
      o,
      none_of (get s.store.view (place_of o.first)) (sym (c.has_row.ensures s.store s.log (its_texts s) o h.holds) ∙ c.if-has_row.false),
      can_store_first g.M.SortedMaps.maps g.M.SortedMaps.spare g.M.SortedMaps.limit c.args.core.now s c.args.session h c.requires.2.0,
    )

pub mark_ghosted-requires-2-after_bounds : goal.mark_ghosted-requires-2-after_bounds
mark_ghosted-requires-2-after_bounds g c κs within =
    let s = c.requires.0 in
    let h = c.requires.1 in
    let i = c.args.session in
    let o = owes_first g.M.SortedMaps.maps g.M.SortedMaps.spare g.M.SortedMaps.limit c.args.core.now s i h c.requires.2.0 in
    let none = none_of (get s.store.view (place_of o.first)) (sym (c.has_row.ensures s.store s.log (its_texts s) o h.holds) ∙ c.if-has_row.false) in (
      does the_views s.store i (Ghosts (place_of o.first) (length (columns_of o.first))),
      logs s.store i act.Ghost (Ghosts (place_of o.first) (length (columns_of o.first))) s.log,
      (its_texts s),
      c.in_ok-make_row.ensures.made s.store s.log (its_texts s) o act.Ghost h.holds none,
      record { of_session = o.is_open.of_session; transaction = o.is_open.transaction; is_open = o.is_open.is_open },
    )

pub returns-then-has_row-clause-told : goal.returns-then-has_row-clause-told
returns-then-has_row-clause-told g c = λ s h may.
    let i = c.args.session in
    let core = c.args.core.now in
    let o = owes_first g.M.SortedMaps.maps g.M.SortedMaps.spare g.M.SortedMaps.limit core s i h may.0 in
    let rest = c.mark_ghosted.ensures.rest in
    let new = c.mark_ghosted.new.core in
    let room = c.give_back.new.self in
    let log = c.find_row.new.self in
    let same_limit = ap (λ (d : DataRoom). d.limit) c.give_back.ensures.rest in
    there_told g.M.SortedMaps.maps g.M.SortedMaps.spare g.M.SortedMaps.limit core (record new { data_room = room; log_room = log }) s i h may.0
    (rooms_underway g.M.SortedMaps.maps g.M.SortedMaps.spare g.M.SortedMaps.limit new room log same_limit s i c.find_row.ensures.limit (ghosted_underway g.M.SortedMaps.maps g.M.SortedMaps.spare g.M.SortedMaps.limit core core new s i h refl rest))
    (sym (c.has_row.ensures s.store s.log (its_texts s) o h.holds) ∙ c.if-has_row.true)
    (rooms_hold g.M.SortedMaps.maps g.M.SortedMaps.spare g.M.SortedMaps.limit new room log same_limit s.store (with_ghost s.log i) (its_texts s) (c.mark_ghosted.ensures.holds s.store s.log (its_texts s) h.holds o.is_open))
    (record {
      data_room = ghosted_reserved g.M.SortedMaps.maps g.M.SortedMaps.spare g.M.SortedMaps.limit core s i h may.0 s.log (sym (same_again s.log.logged i)) room new.data_room c.room_of_first-room.result (ap (λ (x : CoreState g.row.M.Denot). x.data_room) rest) same_limit
          (c.room_of_first-room.ensures s.store s.log (its_texts s) o h.holds) c.give_back.ensures.few c.give_back.ensures.own c.give_back.ensures.others c.give_back.ensures.total;
      log_room = c.find_row.ensures.room s.store s.log i may.0.first (s.log.logged i).ghosted (logged_first g.M.SortedMaps.maps g.M.SortedMaps.spare g.M.SortedMaps.limit core s i h may.0 (s.log.logged i).ghosted refl)
          (subst (λ (x : LogRoom). IsRoomOf x s.store s.log) (sym (ap (λ (x : CoreState g.row.M.Denot). x.log_room) rest)) h.reserves.log_room)
          (c.ghost_of_first-for_ghost.ensures s.store s.log (its_texts s) o h.holds);
    })

pub returns-in_err-make_row-clause-err : goal.returns-in_err-make_row-clause-err
returns-in_err-make_row-clause-err g c = on_err_of c.from_residual.result (λ s h may.
    let i = c.args.session in
    let core = c.args.core.now in
    let o = owes_first g.M.SortedMaps.maps g.M.SortedMaps.spare g.M.SortedMaps.limit core s i h may.0 in
    let rest = c.make_row.ensures.rest in
    began_by g.M.SortedMaps.maps g.M.SortedMaps.spare g.M.SortedMaps.limit c.make_row.new.core s i (ghosted_underway g.M.SortedMaps.maps g.M.SortedMaps.spare g.M.SortedMaps.limit core c.make_row.new.core c.make_row.new.core s i h rest refl) (c.in_err-make_row.ensures.err s.store s.log (its_texts s) o h.holds)
    (reserves_as g.M.SortedMaps.maps g.M.SortedMaps.spare g.M.SortedMaps.limit core c.make_row.new.core s.store s.log (its_texts s) (ap (λ (x : CoreState g.row.M.Denot). x.data_room) rest) (ap (λ (x : CoreState g.row.M.Denot). x.log_room) rest) h.reserves))

pub returns-clause-told : goal.returns-clause-told
returns-clause-told g c = λ s h may.
    let i = c.args.session in
    let core = c.args.core.now in
    let o = owes_first g.M.SortedMaps.maps g.M.SortedMaps.spare g.M.SortedMaps.limit core s i h may.0 in
    let none = none_of (get s.store.view (place_of o.first)) (sym (c.has_row.ensures s.store s.log (its_texts s) o h.holds) ∙ c.if-has_row.false) in
    let ghost = Ghosts (place_of o.first) (length (columns_of o.first)) in
    let l = logs s.store i act.Ghost ghost s.log in
    let made = c.make_row.new.core in
    let new = c.mark_ghosted-2.new.core in
    let room = c.give_back-2.new.self in
    let log = c.make_ghost.new.self in
    let same_limit = ap (λ (d : DataRoom). d.limit) c.give_back-2.ensures.rest in
    let had_none = no_ghost g.M.SortedMaps.maps g.M.SortedMaps.spare g.M.SortedMaps.limit core s i h may.0 none in
    made_told g.M.SortedMaps.maps g.M.SortedMaps.spare g.M.SortedMaps.limit core (record new { data_room = room; log_room = log }) s i h may.0
    (rooms_underway g.M.SortedMaps.maps g.M.SortedMaps.spare g.M.SortedMaps.limit new room log same_limit s i c.make_ghost.ensures.limit (ghosted_underway g.M.SortedMaps.maps g.M.SortedMaps.spare g.M.SortedMaps.limit core made new s i h c.make_row.ensures.rest c.mark_ghosted-2.ensures.rest)) none
    (rooms_hold g.M.SortedMaps.maps g.M.SortedMaps.spare g.M.SortedMaps.limit new room log same_limit (does the_views s.store i ghost) (with_ghost l i) (its_texts s)
    (c.mark_ghosted-2.ensures.holds (does the_views s.store i ghost) l (its_texts s)
    (c.in_ok-make_row.ensures.made s.store s.log (its_texts s) o act.Ghost h.holds none)
    (record { of_session = o.is_open.of_session; transaction = o.is_open.transaction; is_open = o.is_open.is_open })))
    (record {
      data_room = ghosted_reserved g.M.SortedMaps.maps g.M.SortedMaps.spare g.M.SortedMaps.limit core s i h may.0 l (logs_logged s.store i act.Ghost ghost s.log) room new.data_room c.room_of_first-room.result
          (ap (λ (x : CoreState g.row.M.Denot). x.data_room) c.mark_ghosted-2.ensures.rest ∙ ap (λ (x : CoreState g.row.M.Denot). x.data_room) c.make_row.ensures.rest) same_limit
          (c.room_of_first-room.ensures s.store s.log (its_texts s) o h.holds) c.give_back-2.ensures.few c.give_back-2.ensures.own c.give_back-2.ensures.others c.give_back-2.ensures.total;
      log_room = c.make_ghost.ensures.room s.store s.log i act.Ghost may.0.first (logged_first g.M.SortedMaps.maps g.M.SortedMaps.spare g.M.SortedMaps.limit core s i h may.0 false had_none)
          (subst (λ (x : LogRoom). IsRoomOf x s.store s.log) (sym (ap (λ (x : CoreState g.row.M.Denot). x.log_room) c.mark_ghosted-2.ensures.rest ∙ ap (λ (x : CoreState g.row.M.Denot). x.log_room) c.make_row.ensures.rest)) h.reserves.log_room)
          (c.ghost_of_first-for_ghost.ensures s.store s.log (its_texts s) o h.holds ∙ ap (λ ghosted. told_need (ghost_left ghosted may.0.first)) had_none);
    })
