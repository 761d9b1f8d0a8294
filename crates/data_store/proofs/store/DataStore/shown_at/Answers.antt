use Rattle.std.proofs.Common.{List, sym, subst, ◌∙◌}
use Rattle.std.proofs.lemmas.Result.{IfOk-weaker}
use Rattle.std.specs.FinMap.{entries}
use Rattle.iv_types.specs.declared.value.Kind.{Kind}
use Rattle.table_store.specs.Stored.{between}
use Rattle.data_store.specs.Shown.{Shows}
use Rattle.data_store.specs.ViewPast.{CanShowAt, past_entries}
use Rattle.data_store.proofs.PastEntries.{view_defined, is_some_view, can_show, shown_then}
use Rattle.data_store.proofs.store.DataStore.shown_at.Goals as goal

pub view_of-definition-requires : goal.view_of-definition-requires
view_of-definition-requires g c =
    let store = c.args.self.now in
    is_some_view store.catalog (g.M.SortedMaps.maps store.tables) store.views c.requires.view.contents c.requires.view.readable c.args.view c.requires.view.of c.requires.view.is_view

pub rows_shown_at-requires-clause-past : goal.rows_shown_at-requires-clause-past
rows_shown_at-requires-clause-past g c κs within =
    let store = c.args.self.now in
    let maps = g.M.SortedMaps.maps store.tables in
    let r = c.requires.view in
    let d = c.view_of-definition.result.now in
    let can = can_show store.catalog maps store.views r.contents r.readable c.args.view d (view_defined store.catalog c.args.view d c.view_of-definition.ensures.view)
    c.args.number store.delta_versions.versions r.past r.were r.stored in
    (r.past, subst (λ (ks : List Kind). CanShowAt c.args.number store.delta_versions.versions store.views maps c.args.view ks r.past) (sym (c.as_slice.ensures ∙ c.in_ok-kinds.ensures)) can)

pub returns : goal.returns
returns g c =
    let store = c.args.self.now in
    let maps = g.M.SortedMaps.maps store.tables in
    let d = c.view_of-definition.result.now in
    IfOk-weaker c.rows_shown_at.result _ _ (λ rows told contents past v readable were stored is.
    shown_then store.catalog maps store.views contents readable c.args.view d (view_defined store.catalog c.args.view d c.view_of-definition.ensures.view)
    c.args.number store.delta_versions.versions past were stored c.view_of-definition.ensures.number v is c.args.interval.now rows
    (subst (λ (ks : List Kind). Shows ks (past_entries past c.args.view (between c.args.interval.now (entries (maps c.args.view)))) rows) (c.as_slice.ensures ∙ c.in_ok-kinds.ensures) (told past were))) c.rows_shown_at.ensures
