use Rattle.std.proofs.Common.{◌≡◌, Some, sym, ap, ◌∙◌}
use Rattle.std.proofs.lemmas.Result.{IfOk-weaker}
use Rattle.iv_types.specs.declared.catalog.Definition.{Definition}
use Rattle.iv_types.specs.declared.catalog.Definition.TheVariants.{View}
use Rattle.iv_types.specs.Definitions.{number_of, numbered}
use Rattle.data_store.proofs.Finding.{view_rows, finds_view, finds_rows, can_find}
use Rattle.data_store.proofs.store.DataStore.found.Goals as goal

pub shown-requires-after_bounds : goal.shown-requires-after_bounds
shown-requires-after_bounds g c κs within =
    let store = c.args.self.now in
    let is : numbered store.catalog c.args.index ≡ Some (View c.in-View.view) = sym c.in-Some.ensures.value ∙ ap (λ (d : Definition). Some d) c.in-View.is in
    let number : c.in-View.view.number ≡ c.args.index = sym (ap number_of c.in-View.is) ∙ c.in-Some.ensures.number in
    view_rows store.catalog (g.M.SortedMaps.maps store.tables) store.views c.requires.contents c.requires.readable c.args.index c.in-View.view is number

pub read-requires-after_bounds : goal.read-requires-after_bounds
read-requires-after_bounds g c κs within =
    let store = c.args.self.now in
    can_find store.catalog (g.M.SortedMaps.maps store.tables) store.views c.requires.contents c.requires.readable c.number_law.ensures c.args.index c.in-Some.definition.now
    (sym c.in-Some.ensures.value) c.in_default-definition.not-View c.requires.has_rows

pub returns-in-View : goal.returns-in-View
returns-in-View g c =
    let store = c.args.self.now in
    let is : numbered store.catalog c.args.index ≡ Some (View c.in-View.view) = sym c.in-Some.ensures.value ∙ ap (λ (d : Definition). Some d) c.in-View.is in
    let number : c.in-View.view.number ≡ c.args.index = sym (ap number_of c.in-View.is) ∙ c.in-Some.ensures.number in
    IfOk-weaker c.shown.result _ _ (λ rows shows contents db readable schema same.
    finds_view store.catalog (g.M.SortedMaps.maps store.tables) store.views contents readable c.args.index c.in-View.view is number c.args.interval.now rows shows db schema) c.shown.ensures

pub returns-in_default-definition : goal.returns-in_default-definition
returns-in_default-definition g c =
    let store = c.args.self.now in
    IfOk-weaker c.read.result _ _ (λ rows told contents db readable schema same.
    finds_rows store.catalog (g.M.SortedMaps.maps store.tables) store.views contents readable c.number_law.ensures c.args.index c.in-Some.definition.now
    (sym c.in-Some.ensures.value) c.in_default-definition.not-View c.args.interval.now rows told db schema same) c.read.ensures.rows
