use Rattle.std.proofs.Common.{subst, sym}
use Rattle.ghost_rows.specs.Ghosts.{StayListed}
use Rattle.ghost_rows.specs.Kept.{Pays, width}
use Rattle.ghost_rows.specs.State.{AreKept}
use Rattle.txn_machine.specs.Deltas.{place_of}
use Rattle.data_changes.specs.Paying.{HasFor}
use Rattle.data_changes.proofs.Pays.{kept_here, reserved_held}
use Rattle.data_changes.proofs.paying.reserve_pay.Goals as goal

pub reserve-requires-clause-kept : goal.reserve-requires-clause-kept
reserve-requires-clause-kept g c κs within =
    let held = c.requires.held in
    (_, kept_here c.args.store.now.catalog (g.M.SortedMaps.maps c.maps.result.now) c.args.store.now.views held.0 c.args.delta.now (subst (λ m. HasFor c.args.store.now.catalog (g.M.SortedMaps.maps m) c.args.store.now.views c.args.delta.now held.0) (sym c.maps.ensures) held.1))

pub returns-clause-held : goal.returns-clause-held
returns-clause-held g c = λ x has.
    let store = c.args.store.now in
    let d = c.args.delta.now in
    reserved_held store.catalog (g.M.SortedMaps.maps store.tables) store.views c.reserve.new.self x d has c.reserve.ensures.others
    (subst (λ m. StayListed store.views (g.M.SortedMaps.maps m) c.reserve.new.self (g.M.SortedMaps.maps m)) c.maps.ensures c.reserve.ensures.listed)
    (subst (λ m. (pays : Pays) → AreKept store.views (g.M.SortedMaps.maps m) (place_of d) (width d) pays → AreKept c.reserve.new.self (g.M.SortedMaps.maps m) (place_of d) (width d) pays) c.maps.ensures c.reserve.ensures.kept)
