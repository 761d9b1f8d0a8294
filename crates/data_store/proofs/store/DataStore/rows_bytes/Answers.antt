use Rattle.std.proofs.Common.{◌≡◌, Some, sym, ap, ◌∙◌}
use Rattle.std.proofs.lemmas.Result.{IfOk-weaker}
use Rattle.iv_types.specs.declared.catalog.Definition.{Definition}
use Rattle.iv_types.specs.declared.catalog.Definition.TheVariants.{View}
use Rattle.iv_types.specs.Definitions.{number_of, numbered}
use Rattle.data_store.proofs.Finding.{view_rows, can_find}
use Rattle.data_store.proofs.Sizing.{notes_view, notes_rows, has_also}
use Rattle.data_store.proofs.store.DataStore.rows_bytes.Goals as goal

pub noted-requires-after_bounds : goal.noted-requires-after_bounds
noted-requires-after_bounds g c κs within =
    let store = c.args.self.now in
    let is : numbered store.catalog c.args.index ≡ Some (View c.in-View.view) = sym c.in-Some.ensures.value ∙ ap (λ (d : Definition). Some d) c.in-View.is in
    let number : c.in-View.view.number ≡ c.args.index = sym (ap number_of c.in-View.is) ∙ c.in-Some.ensures.number in
    view_rows store.catalog (g.M.SortedMaps.maps store.tables) store.views c.requires.contents c.requires.readable c.args.index c.in-View.view is number

pub noted_between-requires-after_bounds : goal.noted_between-requires-after_bounds
noted_between-requires-after_bounds g c κs within =
    let store = c.args.self.now in
    can_find store.catalog (g.M.SortedMaps.maps store.tables) store.views c.requires.contents c.requires.readable c.number_law.ensures c.args.index c.in-Some.definition.now
    (sym c.in-Some.ensures.value) c.in_default-definition.not-View c.requires.has_rows

pub returns-in-View : goal.returns-in-View
returns-in-View g c =
    let store = c.args.self.now in
    let is : numbered store.catalog c.args.index ≡ Some (View c.in-View.view) = sym c.in-Some.ensures.value ∙ ap (λ (d : Definition). Some d) c.in-View.is in
    let number : c.in-View.view.number ≡ c.args.index = sym (ap number_of c.in-View.is) ∙ c.in-Some.ensures.number in
    IfOk-weaker c.noted.result _ _ (λ size told contents db rows readable schema same found.
    notes_view store.catalog (g.M.SortedMaps.maps store.tables) store.views contents readable c.args.index c.in-View.view is number c.args.interval.now rows size (told rows) db schema found) c.noted.ensures

pub returns-in_default-definition : goal.returns-in_default-definition
returns-in_default-definition g c =
    let store = c.args.self.now in
    let maps = g.M.SortedMaps.maps store.tables in
    λ contents db rows readable schema same found.
    notes_rows store.catalog maps store.views contents readable c.args.index c.number_law.ensures c.in-Some.definition.now (sym c.in-Some.ensures.value) c.in_default-definition.not-View
    (has_also store.catalog maps store.views c.requires.contents contents c.args.index c.requires.readable.held readable.held c.requires.has_rows) c.args.interval.now rows c.noted_between.result c.noted_between.ensures db schema same found
