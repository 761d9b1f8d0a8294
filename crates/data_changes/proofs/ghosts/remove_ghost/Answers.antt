use Rattle.std.proofs.Common.{subst, sym}
use Rattle.data_changes.specs.Ghosts.{HasGhost}
use Rattle.data_changes.proofs.GhostMoves.{can_remove, removed_held}
use Rattle.data_changes.proofs.ghosts.remove_ghost.Goals as goal

pub remove_ghost-requires-after_bounds : goal.remove_ghost-requires-after_bounds
remove_ghost-requires-after_bounds g c κs within =
    let held = c.requires.held in
    can_remove c.args.store.now.catalog (g.M.SortedMaps.maps c.maps_mut.result.now) c.args.store.now.views (c.args.index, c.args.group.now) held.0
    (subst (λ m. HasGhost c.args.store.now.catalog (g.M.SortedMaps.maps m) c.args.store.now.views (c.args.index, c.args.group.now) held.0) (sym c.maps_mut.ensures.value) held.1)

pub returns-clause-removed : goal.returns-clause-removed
returns-clause-removed g c = λ x held.
    removed_held c.args.store.now.catalog (g.M.SortedMaps.maps c.maps_mut.result.now) (g.M.SortedMaps.maps c.remove_ghost.new.maps) c.args.store.now.views c.remove_ghost.new.self (c.args.index, c.args.group.now) x
    (subst (λ m. HasGhost c.args.store.now.catalog (g.M.SortedMaps.maps m) c.args.store.now.views (c.args.index, c.args.group.now) x) (sym c.maps_mut.ensures.value) held)
    c.remove_ghost.ensures.rows c.remove_ghost.ensures.stores c.remove_ghost.ensures.listed c.remove_ghost.ensures.gone c.remove_ghost.ensures.kept
