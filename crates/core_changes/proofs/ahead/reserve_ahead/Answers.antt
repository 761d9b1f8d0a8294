use Rattle.std.proofs.Common.{◌≡◌, ◌+◌, ◌≤◌, sym, subst, ◌∙◌, arith}
use Rattle.data_store.specs.declared.store.DataStore.{DataStore}
use Rattle.core_state.specs.Stands.{Began}
use Rattle.core_effects.proofs.Results.{on_ok_as}
use Rattle.core_changes.proofs.Aheads.{few_rows, few_deltas, roomier_began}
use Rattle.core_changes.proofs.ahead.reserve_ahead.Goals as goal

pub count-rows-requires-clause-rows : goal.count-rows-requires-clause-rows
count-rows-requires-clause-rows g c = few_rows g.M.SortedMaps.maps g.M.SortedMaps.spare g.M.SortedMaps.limit c.args.core.now c.requires.began.0 c.args.session c.requires.began.1

pub count-rows-requires-clause-deltas : goal.count-rows-requires-clause-deltas
count-rows-requires-clause-deltas g c = few_deltas g.M.SortedMaps.maps g.M.SortedMaps.spare g.M.SortedMaps.limit c.args.core.now c.requires.began.0 c.args.session c.requires.began.1

pub reserve-requires : goal.reserve-requires
reserve-requires g c = let is = c.requires.began.2.of_session in omega (arith, is)

pub returns-in_err-reserve-clause-began : goal.returns-in_err-reserve-clause-began
returns-in_err-reserve-clause-began g c = λ s h.
    roomier_began g.M.SortedMaps.maps g.M.SortedMaps.spare g.M.SortedMaps.limit c.args.core.now s c.args.session h c.args.core.now.store.row_versions.room c.args.core.now.store.delta_versions.room c.reserve.new.self (omega arith) (omega arith) c.reserve.ensures.same

pub returns-clause-began : goal.returns-clause-began
returns-clause-began g c = λ s h.
    let core = c.args.core.now in
    let new = c.reserve_versions.new.store in
    let more = c.reserve_versions.ensures.more in
    let all : new ≡ record core.store { row_versions = record core.store.row_versions { room = new.row_versions.room }; delta_versions = record core.store.delta_versions { room = new.delta_versions.room } } =
    c.reserve_versions.ensures.rest ∙ (λ x. record core.store { row_versions = c.reserve_versions.ensures.rows x; delta_versions = c.reserve_versions.ensures.deltas x }) in
    subst (λ (st : DataStore g.row.M.Denot). Began g.M.SortedMaps.maps g.M.SortedMaps.spare g.M.SortedMaps.limit (record core { store = st; ahead = c.reserve.new.self }) s c.args.session) (sym all)
    (roomier_began g.M.SortedMaps.maps g.M.SortedMaps.spare g.M.SortedMaps.limit core s c.args.session h new.row_versions.room new.delta_versions.room c.reserve.new.self more.0 more.1 c.reserve.ensures.same)

pub returns-clause-rows : goal.returns-clause-rows
returns-clause-rows g c = on_ok_as c.reserve_versions.result
    (λ (room : c.count-rows.result.0 + 1 ≤ c.reserve_versions.new.store.row_versions.room). let all = c.count-rows.ensures.all.0 in let same = c.reserve.ensures.same.sum in omega (arith, room, all, same)) c.reserve_versions.ensures.room

pub returns-clause-deltas : goal.returns-clause-deltas
returns-clause-deltas g c = on_ok_as c.reserve_versions.result
    (λ (room : c.count-rows.result.1 + c.args.deltas ≤ c.reserve_versions.new.store.delta_versions.room). let all = c.count-rows.ensures.all.1 in let same = c.reserve.ensures.same.delta_sum in omega (arith, room, all, same)) c.reserve_versions.ensures.deltas_room

pub returns-clause-room : goal.returns-clause-room
returns-clause-room g c = on_ok_as c.reserve_versions.result (λ _. c.in_ok-reserve.ensures.room) c.reserve_versions.ensures.room
