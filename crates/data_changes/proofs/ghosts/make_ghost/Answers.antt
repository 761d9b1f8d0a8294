use Rattle.std.proofs.Common.{subst, sym}
use Rattle.data_store.specs.Held.{IsHeld}
use Rattle.data_changes.specs.Ghosts.{HasAbsent}
use Rattle.data_changes.proofs.Answered.{on_ok_each, on_err_each}
use Rattle.data_changes.proofs.GhostMoves.{made_as, same_as}
use Rattle.data_changes.proofs.ghosts.make_ghost.Goals as goal

pub returns-clause-made : goal.returns-clause-made
returns-clause-made g c = on_ok_each c.make_ghost.result _ _
    (λ x held. made_as c.args.store.now.catalog (g.M.SortedMaps.maps c.maps_mut.result.now) (g.M.SortedMaps.maps c.make_ghost.new.maps) c.args.store.now.views c.make_ghost.new.self (c.args.index, c.args.group.now) c.args.sums x
    (subst (λ m. HasAbsent c.args.store.now.catalog (g.M.SortedMaps.maps m) c.args.store.now.views (c.args.index, c.args.group.now) c.args.sums x) (sym c.maps_mut.ensures.value) held)
    c.make_ghost.result c.make_ghost.ensures.rows c.make_ghost.ensures.stores c.make_ghost.ensures.listed c.make_ghost.ensures.made c.make_ghost.ensures.kept)

pub returns-clause-err : goal.returns-clause-err
returns-clause-err g c = on_err_each c.make_ghost.result _ _
    (λ x held. same_as c.args.store.now.catalog (g.M.SortedMaps.maps c.maps_mut.result.now) (g.M.SortedMaps.maps c.make_ghost.new.maps) c.args.store.now.views c.make_ghost.new.self x c.make_ghost.result c.make_ghost.ensures.err c.make_ghost.ensures.listed
    (subst (λ m. IsHeld c.args.store.now.catalog (g.M.SortedMaps.maps m) c.args.store.now.views x) (sym c.maps_mut.ensures.value) held))
