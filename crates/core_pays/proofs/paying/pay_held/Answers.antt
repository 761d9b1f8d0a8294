use Rattle.std.proofs.Common.{◌≡◌, ◌<◌, ◌^◌, length, sym, ap, subst, ◌∙◌, arith}
use Rattle.lock_manager.specs.Table as table
use Rattle.txn_machine.specs.Acts as act
use Rattle.txn_machine.specs.Log.{logs}
use Rattle.txn_machine.specs.Ghosts.{the_views}
use Rattle.txn_machine.specs.Store.{Pays, does}
use Rattle.data_room.specs.declared.room.DataRoom.{DataRoom}
use Rattle.log_room.specs.Rooms.{IsRoomOf}
use Rattle.log_room.specs.declared.room.LogRoom.{LogRoom}
use Rattle.core_state.specs.Stands.{Told, its_texts}
use Rattle.core_state.specs.declared.state.CoreState.{CoreState}
use Rattle.core_effects.proofs.Done.{AreUncounted, still_underway}
use Rattle.core_pays.proofs.Answered.{between, log_between, the_first, is_there, left_is, few_left, paid_told, unpaid_told, between_reserves, between_logged, owes_logged, can_store_first, paid_reserved}
use Rattle.core_pays.proofs.Reserving.{rooms_hold, rooms_underway, reserves_as}
use Rattle.core_pays.proofs.paying.pay_held.Goals as goal

-- a pay leaves what is counted
uncounted : (M : Type 0) (core new : CoreState M) → new ≡ record core { store = new.store; book = new.book; wants = new.wants; next = new.next } → AreUncounted core new
uncounted M core new rest = record {
  steps = ap (λ (x : CoreState M). x.steps) rest;
  seats = ap (λ (x : CoreState M). x.seats) rest;
  cleaner = ap (λ (x : CoreState M). x.cleaner) rest;
  stop = ap (λ (x : CoreState M). x.stop) rest;
  limit = ap (λ (x : CoreState M). x.data_room.limit) rest;
  log_limit = ap (λ (x : CoreState M). x.log_room.limit) rest;
}

pub room_of_first-room-requires-after_bounds : goal.room_of_first-room-requires-after_bounds
room_of_first-room-requires-after_bounds g c κs within =
    let core = c.args.core.now in
    let s = c.requires.0 in
    let h = c.requires.1 in
    (between g.M.SortedMaps.maps g.M.SortedMaps.spare g.M.SortedMaps.limit core s c.args.session h, log_between g.M.SortedMaps.maps g.M.SortedMaps.spare g.M.SortedMaps.limit core s c.args.session h, (its_texts s), h.holds, the_first g.M.SortedMaps.maps g.M.SortedMaps.spare g.M.SortedMaps.limit core s c.args.session h)

pub record_of_first-appended-requires-after_bounds : goal.record_of_first-appended-requires-after_bounds
record_of_first-appended-requires-after_bounds g c κs within =
    let core = c.args.core.now in
    let s = c.requires.0 in
    let h = c.requires.1 in
    (between g.M.SortedMaps.maps g.M.SortedMaps.spare g.M.SortedMaps.limit core s c.args.session h, log_between g.M.SortedMaps.maps g.M.SortedMaps.spare g.M.SortedMaps.limit core s c.args.session h, (its_texts s), h.holds, the_first g.M.SortedMaps.maps g.M.SortedMaps.spare g.M.SortedMaps.limit core s c.args.session h)

pub ghost_of_first-for_ghost-requires-after_bounds : goal.ghost_of_first-for_ghost-requires-after_bounds
ghost_of_first-for_ghost-requires-after_bounds g c κs within =
    let core = c.args.core.now in
    let s = c.requires.0 in
    let h = c.requires.1 in
    (between g.M.SortedMaps.maps g.M.SortedMaps.spare g.M.SortedMaps.limit core s c.args.session h, log_between g.M.SortedMaps.maps g.M.SortedMaps.spare g.M.SortedMaps.limit core s c.args.session h, (its_texts s), h.holds, the_first g.M.SortedMaps.maps g.M.SortedMaps.spare g.M.SortedMaps.limit core s c.args.session h)

pub give_back-requires : goal.give_back-requires
give_back-requires g c = let is = c.requires.1.owes.goes_on.of_session in omega (arith, is)

pub pay_first-requires-clause-owes : goal.pay_first-requires-clause-owes
pay_first-requires-clause-owes g c κs within =
    let core = c.args.core.now in
    let s = c.requires.0 in
    let h = c.requires.1 in
    (between g.M.SortedMaps.maps g.M.SortedMaps.spare g.M.SortedMaps.limit core s c.args.session h, log_between g.M.SortedMaps.maps g.M.SortedMaps.spare g.M.SortedMaps.limit core s c.args.session h, (its_texts s), h.holds, the_first g.M.SortedMaps.maps g.M.SortedMaps.spare g.M.SortedMaps.limit core s c.args.session h, can_store_first g.M.SortedMaps.maps g.M.SortedMaps.spare g.M.SortedMaps.limit core s c.args.session h)

pub open_of-requires-after_bounds : goal.open_of-requires-after_bounds
open_of-requires-after_bounds g c κs within =
    let core = c.args.core.now in
    let i = c.args.session in
    let s = c.requires.0 in
    let h = c.requires.1 in
    let b = between g.M.SortedMaps.maps g.M.SortedMaps.spare g.M.SortedMaps.limit core s i h in
    let l = log_between g.M.SortedMaps.maps g.M.SortedMaps.spare g.M.SortedMaps.limit core s i h in
    is_there g.M.SortedMaps.maps g.M.SortedMaps.spare g.M.SortedMaps.limit core s i h c.pay_first.new.core (logs b i act.Pay Pays l) (c.in-Ok.ensures.paid b l (its_texts s) act.Pay h.holds (the_first g.M.SortedMaps.maps g.M.SortedMaps.spare g.M.SortedMaps.limit core s i h))

pub overflow_cast-result : goal.overflow_cast-result
overflow_cast-result g c =
    let core = c.args.core.now in
    let i = c.args.session in
    let s = c.requires.0 in
    let h = c.requires.1 in
    let b = between g.M.SortedMaps.maps g.M.SortedMaps.spare g.M.SortedMaps.limit core s i h in
    let l = log_between g.M.SortedMaps.maps g.M.SortedMaps.spare g.M.SortedMaps.limit core s i h in
    let same : length c.open_of.result.now.owed.items ≡ length h.owes.others = left_is g.M.SortedMaps.maps g.M.SortedMaps.spare g.M.SortedMaps.limit core s i h c.pay_first.new.core (logs b i act.Pay Pays l) (c.in-Ok.ensures.paid b l (its_texts s) act.Pay h.holds (the_first g.M.SortedMaps.maps g.M.SortedMaps.spare g.M.SortedMaps.limit core s i h)) c.open_of.result.now c.open_of.ensures in
    let few : length h.owes.others < 2 ^ 32 = few_left g.M.SortedMaps.maps g.M.SortedMaps.spare g.M.SortedMaps.limit core s i h in
    let is : c.len.result ≡ length c.open_of.result.now.owed.items = c.len.ensures ∙ c.open_of.result.now.owed.ok.0 in
    omega (arith, same, few, is)

pub returns-in-Ok : goal.returns-in-Ok
returns-in-Ok g c = λ s h.
    let core = c.args.core.now in
    let i = c.args.session in
    let b = between g.M.SortedMaps.maps g.M.SortedMaps.spare g.M.SortedMaps.limit core s i h in
    let l = log_between g.M.SortedMaps.maps g.M.SortedMaps.spare g.M.SortedMaps.limit core s i h in
    let first = the_first g.M.SortedMaps.maps g.M.SortedMaps.spare g.M.SortedMaps.limit core s i h in
    let rest = c.pay_first.ensures.rest in
    let new = c.pay_first.new.core in
    let room = c.give_back.new.self in
    let log = c.pay.new.self in
    let same_limit = ap (λ (d : DataRoom). d.limit) c.give_back.ensures.rest in
    let holds = c.in-Ok.ensures.paid b l (its_texts s) act.Pay h.holds first in
    let allowed = c.in-Ok.ensures.allowed b l (its_texts s) first h.holds in
    paid_told g.M.SortedMaps.maps g.M.SortedMaps.spare g.M.SortedMaps.limit core s i h (record new { data_room = room; log_room = log })
    (rooms_underway g.M.SortedMaps.maps g.M.SortedMaps.spare g.M.SortedMaps.limit new room log same_limit s i c.pay.ensures.limit (still_underway g.M.SortedMaps.maps g.M.SortedMaps.spare g.M.SortedMaps.limit core new s i h.underway (uncounted g.row.M.Denot core new rest)
    (λ js. ap (λ (x : CoreState g.row.M.Denot). table.waiting_of x.locks i) rest ∙ h.underway.own js) (λ j n. ap (λ (x : CoreState g.row.M.Denot). table.waiting_of x.locks j) rest)))
    c.len.result ((c.len.ensures ∙ c.open_of.result.now.owed.ok.0) ∙ left_is g.M.SortedMaps.maps g.M.SortedMaps.spare g.M.SortedMaps.limit core s i h new (logs b i act.Pay Pays l) holds c.open_of.result.now c.open_of.ensures) allowed.0 allowed.1
    (rooms_hold g.M.SortedMaps.maps g.M.SortedMaps.spare g.M.SortedMaps.limit new room log same_limit (does the_views b i Pays) (logs b i act.Pay Pays l) (its_texts s) holds)
    (record {
      data_room = paid_reserved g.M.SortedMaps.maps g.M.SortedMaps.spare g.M.SortedMaps.limit core s i h room new.data_room c.room_of_first-room.result (ap (λ (x : CoreState g.row.M.Denot). x.data_room) rest) same_limit
          (c.room_of_first-room.ensures b l (its_texts s) first h.holds) c.give_back.ensures.few c.give_back.ensures.own c.give_back.ensures.others c.give_back.ensures.total;
      log_room = c.pay.ensures.room b l i act.Pay h.owes.first (l.logged i).ghosted (owes_logged g.M.SortedMaps.maps g.M.SortedMaps.spare g.M.SortedMaps.limit core s i h)
          (subst (λ (x : LogRoom). IsRoomOf x b l) (sym (ap (λ (x : CoreState g.row.M.Denot). x.log_room) rest)) (between_logged g.M.SortedMaps.maps g.M.SortedMaps.spare g.M.SortedMaps.limit core s i h c.same_room_law.ensures))
          (c.record_of_first-appended.ensures b l (its_texts s) first h.holds) (c.ghost_of_first-for_ghost.ensures b l (its_texts s) first h.holds);
    })

pub returns-in-Err : goal.returns-in-Err
returns-in-Err g c = λ s h.
    let core = c.args.core.now in
    let i = c.args.session in
    let b = between g.M.SortedMaps.maps g.M.SortedMaps.spare g.M.SortedMaps.limit core s i h in
    let l = log_between g.M.SortedMaps.maps g.M.SortedMaps.spare g.M.SortedMaps.limit core s i h in
    let first = the_first g.M.SortedMaps.maps g.M.SortedMaps.spare g.M.SortedMaps.limit core s i h in
    let rest = c.pay_first.ensures.rest in
    let new = c.pay_first.new.core in
    subst (λ m. Told g.M.SortedMaps.maps g.M.SortedMaps.spare g.M.SortedMaps.limit s i act.Pay m new) (sym c.unpaid.ensures)
    (unpaid_told g.M.SortedMaps.maps g.M.SortedMaps.spare g.M.SortedMaps.limit core s i h new
    (still_underway g.M.SortedMaps.maps g.M.SortedMaps.spare g.M.SortedMaps.limit core new s i h.underway (uncounted g.row.M.Denot core new rest)
    (λ js. ap (λ (x : CoreState g.row.M.Denot). table.waiting_of x.locks i) rest ∙ h.underway.own js) (λ j n. ap (λ (x : CoreState g.row.M.Denot). table.waiting_of x.locks j) rest))
    c.in-Err.why (c.in-Err.ensures.unpaid b l (its_texts s) first h.holds) (c.in-Err.ensures.kept b l (its_texts s) first h.holds)
    (reserves_as g.M.SortedMaps.maps g.M.SortedMaps.spare g.M.SortedMaps.limit core new b l (its_texts s) (ap (λ (x : CoreState g.row.M.Denot). x.data_room) rest) (ap (λ (x : CoreState g.row.M.Denot). x.log_room) rest)
    (record { data_room = between_reserves g.M.SortedMaps.maps g.M.SortedMaps.spare g.M.SortedMaps.limit core s i h; log_room = between_logged g.M.SortedMaps.maps g.M.SortedMaps.spare g.M.SortedMaps.limit core s i h c.same_room_law.ensures })))
