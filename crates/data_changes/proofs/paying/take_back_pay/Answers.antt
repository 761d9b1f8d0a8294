use Rattle.std.proofs.Common.{subst, sym}
use Rattle.data_changes.specs.Paying.{HasFor}
use Rattle.data_changes.proofs.Pays.{kept_here, taken_as}
use Rattle.data_changes.proofs.paying.take_back_pay.Goals as goal

pub take_back-requires-clause-kept : goal.take_back-requires-clause-kept
take_back-requires-clause-kept g c κs within =
    let held = c.requires.held in
    (_, kept_here c.args.store.now.catalog (g.M.SortedMaps.maps c.maps_mut.result.now) c.args.store.now.views held.0 c.args.delta.now (subst (λ m. HasFor c.args.store.now.catalog (g.M.SortedMaps.maps m) c.args.store.now.views c.args.delta.now held.0) (sym c.maps_mut.ensures.value) held.1), held.2)

pub returns-clause-taken : goal.returns-clause-taken
returns-clause-taken g c = λ x ks held latest prefixes.
    taken_as c.args.store.now.catalog (g.M.SortedMaps.maps c.maps_mut.result.now) c.args.store.now.views x c.args.delta.now (subst (λ m. HasFor c.args.store.now.catalog (g.M.SortedMaps.maps m) c.args.store.now.views c.args.delta.now x) (sym c.maps_mut.ensures.value) held) (g.M.SortedMaps.maps c.take_back.new.maps) c.take_back.new.self c.args.session ks latest c.args.before.now prefixes
    c.take_back.ensures.others c.take_back.ensures.stores c.take_back.ensures.listed c.take_back.ensures.taken c.take_back.ensures.value
