use Rattle.std.proofs.Common.{◌+◌, sym, ap, subst}
use Rattle.table_laws.specs.Place.{Place}
use Rattle.data_store.specs.Held.{IsHeld}
use Rattle.data_store.specs.declared.store.DataStore.{DataStore}
use Rattle.data_changes.specs.Effects.{without_ghost}
use Rattle.txn_machine.specs.Acts as act
use Rattle.txn_machine.specs.Ghosts.{the_views}
use Rattle.txn_machine.specs.Log.{logs}
use Rattle.txn_machine.specs.Store.{Cleans, does}
use Rattle.core_state.specs.Stands.{Holds, told, its_texts}
use Rattle.core_upkeep.proofs.Removed.{has_ghost, removed_holds}
use Rattle.core_upkeep.proofs.cleaning.remove.Goals as goal

pub remove_ghost-requires-clause-held : goal.remove_ghost-requires-clause-held
remove_ghost-requires-clause-held g c κs within =
    let s = c.requires.0 in
    (told s.store (its_texts s), has_ghost g.M.SortedMaps.maps g.M.SortedMaps.spare g.M.SortedMaps.limit c.args.core.now s c.requires.1 (c.args.view, c.args.group.now) c.requires.2)

pub returns-clause-holds : goal.returns-clause-holds
returns-clause-holds g c = λ s h can.
    let core = c.args.core.now in
    let place : Place = (c.args.view, c.args.group.now) in
    let new = c.remove_ghost.new.store in
    let rest = c.remove_ghost.ensures.rest in
    subst (λ st. Holds g.M.SortedMaps.maps g.M.SortedMaps.spare g.M.SortedMaps.limit (record core { store = st; next = core.next + 1 }) (does the_views s.store 0 (Cleans place)) (logs s.store 0 act.Clean (Cleans place) s.log) (its_texts s)) (sym rest)
    (removed_holds g.M.SortedMaps.maps g.M.SortedMaps.spare g.M.SortedMaps.limit core s h place can new.tables new.views c.remove_ghost.ensures.limit c.remove_ghost.ensures.rows c.remove_ghost.ensures.rooms c.remove_ghost.ensures.spare
    (subst (λ x. IsHeld x (g.M.SortedMaps.maps new.tables) new.views (without_ghost (told s.store (its_texts s)) place)) (ap (λ (st : DataStore g.row.M.Denot). st.catalog) rest)
    (c.remove_ghost.ensures.removed (told s.store (its_texts s)) (has_ghost g.M.SortedMaps.maps g.M.SortedMaps.spare g.M.SortedMaps.limit core s h place can))))
