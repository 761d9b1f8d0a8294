use Rattle.std.proofs.Common.{Option, suc, length, sym, subst}
use Rattle.iv_meaning.specs.Objects.{view_tree}
use Rattle.image_views.specs.declared.wrong.WrongRow.{WrongRow}
use Rattle.image_views.specs.Rows.{Any, IsToldOf, AreBeside}
use Rattle.image_views.proofs.Evaluated.{stored_by, beside}
use Rattle.image_views.proofs.Places.{same_more, differs_more}
use Rattle.image_views.proofs.check.compared.Goals as goal

pub first_wrong-requires-after_bounds : goal.first_wrong-requires-after_bounds
first_wrong-requires-after_bounds g c κs within =
    let v = view_tree c.args.view.now in
    let ds = c.args.store.now.catalog in
    let maps = g.M.SortedMaps.maps c.args.store.now.tables in
    let state = c.args.store.now.views in
    let f = c.requires.2 in
    let stored = stored_by ds maps state v c.requires.0 c.requires.1 in
    (suc (length v.sums), stored, f.by_group, subst (λ t. AreBeside (suc (length v.sums)) (g.M.SortedMaps.maps t v.number) c.args.rows.now stored f.by_group) (sym c.maps.ensures) (beside ds maps state v c.requires.0 c.requires.1 c.args.rows.now f))

pub returns-in-None : goal.returns-in-None
returns-in-None g c = λ x can f h.
    let v = view_tree c.args.view.now in
    let ds = c.args.store.now.catalog in
    let maps = g.M.SortedMaps.maps c.args.store.now.tables in
    let state = c.args.store.now.views in
    let stored = stored_by ds maps state v x can in
    let told = c.in_ok-first_wrong.ensures (suc (length v.sums)) stored f.by_group
    (subst (λ t. AreBeside (suc (length v.sums)) (g.M.SortedMaps.maps t v.number) c.args.rows.now stored f.by_group) (sym c.maps.ensures) (beside ds maps state v x can c.args.rows.now f)) in
    same_more x v c.args.rows.now f (subst (λ (o : Option WrongRow). IsToldOf Any v.number stored f.by_group o) c.in-None.is told) h

pub returns-in-Some : goal.returns-in-Some
returns-in-Some g c = λ x can f h.
    let v = view_tree c.args.view.now in
    let ds = c.args.store.now.catalog in
    let maps = g.M.SortedMaps.maps c.args.store.now.tables in
    let state = c.args.store.now.views in
    let stored = stored_by ds maps state v x can in
    let told = c.in_ok-first_wrong.ensures (suc (length v.sums)) stored f.by_group
    (subst (λ t. AreBeside (suc (length v.sums)) (g.M.SortedMaps.maps t v.number) c.args.rows.now stored f.by_group) (sym c.maps.ensures) (beside ds maps state v x can c.args.rows.now f)) in
    differs_more x v c.args.rows.now f c.in-Some.wrong (subst (λ (o : Option WrongRow). IsToldOf Any v.number stored f.by_group o) c.in-Some.is told) h
