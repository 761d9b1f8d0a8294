use Rattle.std.proofs.Common.{sym, subst}
use Rattle.data_store.specs.Contents.{contents_of}
use Rattle.data_store.specs.Held.{IsHeld}
use Rattle.data_store.specs.declared.store.DataStore.{DataStore}
use Rattle.core_state.specs.Stands.{Holds}
use Rattle.core_effects.proofs.Deltas.{ghost_delta}
use Rattle.core_changes.proofs.Roomier.{limited_here, has_for, views_holds}
use Rattle.core_changes.proofs.room.reserve_one.Goals as goal

pub reserve_pay-requires-clause-delta : goal.reserve_pay-requires-clause-delta
reserve_pay-requires-clause-delta g c κs within =
    let h = c.requires.held in
    ghost_delta _ (limited_here g.M.SortedMaps.maps g.M.SortedMaps.spare g.M.SortedMaps.limit c.args.core.now h.0 h.1 h.2 h.3) c.args.delta.now h.4

pub reserve_pay-requires-clause-held : goal.reserve_pay-requires-clause-held
reserve_pay-requires-clause-held g c κs within =
    let h = c.requires.held in
    (contents_of h.0, has_for g.M.SortedMaps.maps g.M.SortedMaps.spare g.M.SortedMaps.limit c.args.core.now h.0 h.1 h.2 h.3 c.args.delta.now h.4)

pub returns-clause-holds : goal.returns-clause-holds
returns-clause-holds g c = λ s l texts delta h.
    let core = c.args.core.now in
    let new = c.reserve_pay.new.store in
    let rest = c.reserve_pay.ensures.rest in
    subst (λ st. Holds g.M.SortedMaps.maps g.M.SortedMaps.spare g.M.SortedMaps.limit (record core { store = st }) s l texts) (sym rest)
    (views_holds g.M.SortedMaps.maps g.M.SortedMaps.spare g.M.SortedMaps.limit core s l texts h new.views
    (subst (λ (st : DataStore g.row.M.Denot). IsHeld st.catalog (g.M.SortedMaps.maps st.tables) new.views (contents_of s)) rest (c.reserve_pay.ensures.held (contents_of s) (has_for g.M.SortedMaps.maps g.M.SortedMaps.spare g.M.SortedMaps.limit core s l texts h c.args.delta.now delta)))
    c.reserve_pay.ensures.rooms c.reserve_pay.ensures.seats)
