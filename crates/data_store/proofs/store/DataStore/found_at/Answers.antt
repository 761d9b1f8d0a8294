use Rattle.std.proofs.Common.{◌≡◌, Some, sym, ap, ◌∙◌}
use Rattle.std.proofs.lemmas.Result.{IfOk-weaker}
use Rattle.iv_types.specs.declared.catalog.Definition.{Definition}
use Rattle.iv_types.specs.declared.catalog.Definition.TheVariants.{View}
use Rattle.iv_types.specs.Definitions.{numbered}
use Rattle.data_store.proofs.FoundThen.{peek_view, found_view, peek_table, found_table}
use Rattle.data_store.proofs.store.DataStore.found_at.Goals as goal

pub shown_at-requires-clause-view : goal.shown_at-requires-clause-view
shown_at-requires-clause-view g c κs within =
    let store = c.args.self.now in
    let is : numbered store.catalog c.args.index ≡ Some (View c.in-View.field-0) = sym c.in-Some.ensures.value ∙ ap (λ (d : Definition). Some d) c.in-View.is in
    peek_view c.args.number store.row_versions.versions store.delta_versions.versions store.pending.entries store.catalog (g.M.SortedMaps.maps store.tables) store.views c.args.index c.in-View.field-0 is c.requires.past

pub rows_at-requires-clause-rows : goal.rows_at-requires-clause-rows
rows_at-requires-clause-rows g c κs within =
    let store = c.args.self.now in
    peek_table c.args.number store.row_versions.versions store.delta_versions.versions store.pending.entries store.catalog (g.M.SortedMaps.maps store.tables) store.views c.number_law.ensures c.args.index c.in-Some.definition.now
    (sym c.in-Some.ensures.value) c.in_default-definition.not-View c.requires.past

pub returns-in-View : goal.returns-in-View
returns-in-View g c =
    let store = c.args.self.now in
    let is : numbered store.catalog c.args.index ≡ Some (View c.in-View.field-0) = sym c.in-Some.ensures.value ∙ ap (λ (d : Definition). Some d) c.in-View.is in
    IfOk-weaker c.shown_at.result _ _ (λ rows told contents db past readable schema were.
    found_view c.args.number store.row_versions.versions store.delta_versions.versions store.pending.entries store.catalog (g.M.SortedMaps.maps store.tables) store.views c.args.index c.in-View.field-0 is c.args.interval.now rows told contents db past readable schema were) c.shown_at.ensures

pub returns-in_default-definition : goal.returns-in_default-definition
returns-in_default-definition g c =
    let store = c.args.self.now in
    IfOk-weaker c.rows_at.result _ _ (λ rows told contents db past readable schema were.
    found_table c.args.number store.row_versions.versions store.delta_versions.versions store.pending.entries store.catalog (g.M.SortedMaps.maps store.tables) store.views c.number_law.ensures c.args.index c.in-Some.definition.now
    (sym c.in-Some.ensures.value) c.in_default-definition.not-View c.args.interval.now rows told contents db past readable schema were) c.rows_at.ensures
