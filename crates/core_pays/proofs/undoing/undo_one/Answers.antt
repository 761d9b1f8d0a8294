use Rattle.std.proofs.Common.{◌≡◌, ◌<◌, ◌^◌, length, arith, sym, ap, subst, ◌∙◌}
use Rattle.txn_machine.specs.Acts as act
use Rattle.txn_machine.specs.Log.{logs}
use Rattle.txn_machine.specs.Store.{Undoes}
use Rattle.data_room.specs.declared.room.DataRoom.{DataRoom}
use Rattle.log_room.specs.Rooms.{IsRoomOf}
use Rattle.log_room.specs.declared.room.LogRoom.{LogRoom}
use Rattle.core_state.specs.declared.state.CoreState.{CoreState}
use Rattle.core_effects.proofs.Done.{begun_underway}
use Rattle.core_pays.proofs.Reserving.{can_go_back}
use Rattle.core_pays.proofs.Undone.{keeps_here, is_there, left_is, few_left, earlier, undone_told, undone_reserved}
use Rattle.core_pays.proofs.undoing.undo_one.Goals as goal
use Rattle.core_state.specs.Stands.{its_texts}

pub undo-requires-clause-keeps : goal.undo-requires-clause-keeps
undo-requires-clause-keeps g c κs within =
    let s = c.requires.0 in (
      s.store,
      s.log,
      (its_texts s),
      c.requires.1.holds,
      keeps_here g.M.SortedMaps.maps g.M.SortedMaps.spare g.M.SortedMaps.limit c.args.core.now c.args.core.now s c.args.session c.requires.1 c.requires.2,
      can_go_back g.M.SortedMaps.maps g.M.SortedMaps.spare g.M.SortedMaps.limit c.args.core.now s c.args.session (begun_underway g.M.SortedMaps.maps g.M.SortedMaps.spare g.M.SortedMaps.limit c.args.core.now s c.args.session c.requires.1) c.requires.1.reserves c.requires.1.holds
          (keeps_here g.M.SortedMaps.maps g.M.SortedMaps.spare g.M.SortedMaps.limit c.args.core.now c.args.core.now s c.args.session c.requires.1 c.requires.2),
    )

pub give_back-requires : goal.give_back-requires
give_back-requires g c = let is = c.requires.2.0.of_session in omega (arith, is)

pub open_of-requires-after_bounds : goal.open_of-requires-after_bounds
open_of-requires-after_bounds g c κs within =
    let core = c.args.core.now in
    let i = c.args.session in
    let s = c.requires.0 in
    let h = c.requires.1 in
    let l = logs s.store i act.UndoOne Undoes s.log in
    is_there g.M.SortedMaps.maps g.M.SortedMaps.spare g.M.SortedMaps.limit core c.undo.new.core s i h c.requires.2 l (c.undo.ensures.holds s.store s.log (its_texts s) act.UndoOne h.holds (keeps_here g.M.SortedMaps.maps g.M.SortedMaps.spare g.M.SortedMaps.limit core c.undo.new.core s i h c.requires.2))

pub overflow_cast-result : goal.overflow_cast-result
overflow_cast-result g c =
    let core = c.args.core.now in
    let i = c.args.session in
    let s = c.requires.0 in
    let h = c.requires.1 in
    let may = c.requires.2 in
    let l = logs s.store i act.UndoOne Undoes s.log in
    let holds = c.undo.ensures.holds s.store s.log (its_texts s) act.UndoOne h.holds (keeps_here g.M.SortedMaps.maps g.M.SortedMaps.spare g.M.SortedMaps.limit core c.undo.new.core s i h may) in
    let same : length c.open_of.result.now.kept.items ≡ length (earlier g.M.SortedMaps.maps g.M.SortedMaps.spare g.M.SortedMaps.limit core c.undo.new.core s i h may) = left_is g.M.SortedMaps.maps g.M.SortedMaps.spare g.M.SortedMaps.limit core c.undo.new.core s i h may l holds c.open_of.result.now c.open_of.ensures in
    let few : length (earlier g.M.SortedMaps.maps g.M.SortedMaps.spare g.M.SortedMaps.limit core c.undo.new.core s i h may) < 2 ^ 32 = few_left g.M.SortedMaps.maps g.M.SortedMaps.spare g.M.SortedMaps.limit core c.undo.new.core s i h may l holds in
    let is : c.len.result ≡ length c.open_of.result.now.kept.items = c.len.ensures ∙ c.open_of.result.now.kept.ok.0 in
    omega (arith, same, few, is)

pub returns : goal.returns
returns g c = λ s h may.
    let core = c.args.core.now in
    let i = c.args.session in
    let l = logs s.store i act.UndoOne Undoes s.log in
    let holds = c.undo.ensures.holds s.store s.log (its_texts s) act.UndoOne h.holds (keeps_here g.M.SortedMaps.maps g.M.SortedMaps.spare g.M.SortedMaps.limit core c.undo.new.core s i h may) in
    let new = c.undo.new.core in
    let room = c.give_back.new.self in
    let log = c.undo_in.new.room in
    let same_limit = ap (λ (d : DataRoom). d.limit) c.give_back.ensures.rest in
    let same_log = ap (λ (x : CoreState g.row.M.Denot). x.log_room) c.undo.ensures.rest in
    undone_told g.M.SortedMaps.maps g.M.SortedMaps.spare g.M.SortedMaps.limit core new s i h may c.undo.ensures.rest room log same_limit c.undo_in.ensures.limit c.len.result
    ((c.len.ensures ∙ c.open_of.result.now.kept.ok.0) ∙ left_is g.M.SortedMaps.maps g.M.SortedMaps.spare g.M.SortedMaps.limit core new s i h may l holds c.open_of.result.now c.open_of.ensures) holds
    (undone_reserved g.M.SortedMaps.maps g.M.SortedMaps.spare g.M.SortedMaps.limit core new s i h may room new.data_room c.room_of_latest-room.result (ap (λ (x : CoreState g.row.M.Denot). x.data_room) c.undo.ensures.rest) same_limit (c.room_of_latest-room.ensures s h may)
    c.give_back.ensures.few c.give_back.ensures.own c.give_back.ensures.others c.give_back.ensures.total)
    (c.undo_in.ensures.undone s.store s.log i act.UndoOne (c.owed_of_latest-owed.ensures s h may) (subst (λ (x : LogRoom). IsRoomOf x s.store s.log) (sym same_log) h.reserves.log_room))
