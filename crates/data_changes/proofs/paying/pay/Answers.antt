use Rattle.std.proofs.Common.{subst, sym}
use Rattle.ghost_rows.proofs.StateLemmas.{some_of}
use Rattle.data_changes.specs.Paying.{HasFor}
use Rattle.data_changes.proofs.Answered.{on_ok_each, on_err_each, if_ok_each, on_ok_both, if_err_both}
use Rattle.data_changes.proofs.Pays.{kept_here}
use Rattle.data_changes.proofs.Frames.{seats_stay}
use Rattle.data_changes.proofs.Refusals.{absent_as, paid_as, before_as, allowed_told, refused_told, kept_as}
use Rattle.txn_machine.specs.Deltas.{place_of}
use Rattle.data_changes.proofs.paying.pay.Goals as goal

pub pay-requires-clause-kept : goal.pay-requires-clause-kept
pay-requires-clause-kept g c κs within =
    let held = c.requires.held in
    (_, kept_here c.args.store.now.catalog (g.M.SortedMaps.maps c.maps_mut.result.now) c.args.store.now.views held.0 c.args.delta.now (subst (λ m. HasFor c.args.store.now.catalog (g.M.SortedMaps.maps m) c.args.store.now.views c.args.delta.now held.0) (sym c.maps_mut.ensures.value) held.1))

pub returns-clause-absent : goal.returns-clause-absent
returns-clause-absent g c = λ x held. absent_as c.args.store.now.catalog (g.M.SortedMaps.maps c.maps_mut.result.now) c.args.store.now.views x c.args.delta.now (subst (λ m. HasFor c.args.store.now.catalog (g.M.SortedMaps.maps m) c.args.store.now.views c.args.delta.now x) (sym c.maps_mut.ensures.value) held) c.args.session c.pay.result c.pay.ensures.absent

pub returns-clause-paid : goal.returns-clause-paid
returns-clause-paid g c = on_ok_each c.pay.result _ _
    (λ x held. paid_as c.args.store.now.catalog (g.M.SortedMaps.maps c.maps_mut.result.now) c.args.store.now.views x c.args.delta.now (subst (λ m. HasFor c.args.store.now.catalog (g.M.SortedMaps.maps m) c.args.store.now.views c.args.delta.now x) (sym c.maps_mut.ensures.value) held) c.args.session c.pay.result (g.M.SortedMaps.maps c.pay.new.maps) c.pay.new.self
    c.pay.ensures.absent c.pay.ensures.paid c.pay.ensures.value c.pay.ensures.others c.pay.ensures.stores c.pay.ensures.listed)

pub returns-clause-before : goal.returns-clause-before
returns-clause-before g c = if_ok_each c.pay.result _ _
    (λ x held. before_as c.args.store.now.catalog (g.M.SortedMaps.maps c.maps_mut.result.now) c.args.store.now.views x c.args.delta.now (subst (λ m. HasFor c.args.store.now.catalog (g.M.SortedMaps.maps m) c.args.store.now.views c.args.delta.now x) (sym c.maps_mut.ensures.value) held) c.args.session c.pay.result c.pay.ensures.before)

pub returns-clause-allowed : goal.returns-clause-allowed
returns-clause-allowed g c =
    let row = some_of _ c.requires.ready.seat.1 in
    on_ok_both c.pay.result _ _ _
    (λ x committed held are. allowed_told c.args.store.now.catalog (g.M.SortedMaps.maps c.maps_mut.result.now) c.args.store.now.views x c.args.delta.now (subst (λ m. HasFor c.args.store.now.catalog (g.M.SortedMaps.maps m) c.args.store.now.views c.args.delta.now x) (sym c.maps_mut.ensures.value) held) c.args.session row.0 row.1 committed are c.pay.result c.pay.ensures.absent c.pay.ensures.allowed)

pub returns-clause-escrow : goal.returns-clause-escrow
returns-clause-escrow g c =
    let row = some_of _ c.requires.ready.seat.1 in
    if_err_both c.pay.result _ _ _
    (λ x committed held are. refused_told c.args.store.now.catalog (g.M.SortedMaps.maps c.maps_mut.result.now) c.args.store.now.views x c.args.delta.now (subst (λ m. HasFor c.args.store.now.catalog (g.M.SortedMaps.maps m) c.args.store.now.views c.args.delta.now x) (sym c.maps_mut.ensures.value) held) c.args.session row.0 row.1 committed are c.pay.result c.pay.ensures.absent c.pay.ensures.escrow)

pub returns-clause-kept : goal.returns-clause-kept
returns-clause-kept g c = on_err_each c.pay.result _ _
    (λ x held. kept_as c.args.store.now.catalog (g.M.SortedMaps.maps c.maps_mut.result.now) c.args.store.now.views x c.args.delta.now (subst (λ m. HasFor c.args.store.now.catalog (g.M.SortedMaps.maps m) c.args.store.now.views c.args.delta.now x) (sym c.maps_mut.ensures.value) held) c.args.session c.pay.result (g.M.SortedMaps.maps c.pay.new.maps) c.pay.new.self c.pay.ensures.err c.pay.ensures.listed)

pub returns-clause-seats : goal.returns-clause-seats
returns-clause-seats g c = seats_stay (place_of c.args.delta.now) c.args.store.now.views c.pay.new.self c.pay.ensures.others c.pay.ensures.seats
