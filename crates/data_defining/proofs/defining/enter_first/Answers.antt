use Rattle.std.proofs.Common.{◌≡◌, ◌≤◌, ◌++◌, ◌∷◌, [], ℕ, length, suc}
use mathlib.Core.Path.{sym, ap, subst, ◌∙◌}
use Rattle.iv_types.specs.Definitions.{Definitions, number_of}
use Rattle.iv_meaning.specs.Objects.{object_of}
use Rattle.table_store.specs.Filling.{CanPutAll, filled}
use Rattle.ghost_rows.specs.State.{State}
use Rattle.data_store.specs.Held.{IsHeld}
use Rattle.data_defining.specs.Defining.{with_object}
use Rattle.data_defining.proofs.Defined.{number_is, can_put, defined_held}
use Rattle.data_defining.proofs.defining.enter_first.Goals as goal

pub put_all-requires-after_bounds : goal.put_all-requires-after_bounds
put_all-requires-after_bounds g c κs within =
    let q = c.requires.last in
    let t = c.args.store.now.tables in
    let state = c.args.store.now.views in
    let own : number_of q.1 ≡ suc (length q.0) = number_is q.0 (g.M.SortedMaps.maps t) state q.1 c.args.first q.2 q.4 in
    let at : c.args.number ≡ suc (length q.0) = q.3.number_is ∙ own in
    subst (λ x. CanPutAll c.args.number (g.M.SortedMaps.maps x) (g.M.SortedMaps.spare x c.args.number) (g.M.SortedMaps.limit x) c.args.first) (sym c.maps_mut.ensures.value)
    (subst (λ (n : ℕ). CanPutAll n (g.M.SortedMaps.maps t) (g.M.SortedMaps.spare t n) (g.M.SortedMaps.limit t) c.args.first) (sym at)
    (can_put q.0 (g.M.SortedMaps.maps t) state q.1 c.args.first q.2 q.4 c.row_law.ensures.spelling c.key_law.ensures.spelling (g.M.SortedMaps.spare t (suc (length q.0))) (g.M.SortedMaps.limit t)
    (subst (λ (n : ℕ). length c.args.first ≤ g.M.SortedMaps.spare t n) at c.requires.room) c.requires.within))

pub returns-clause-held : goal.returns-clause-held
returns-clause-held g c = λ before definition x last can.
    let t = c.args.store.now.tables in
    let state = c.args.store.now.views in
    let new = g.M.SortedMaps.maps c.put_all.new.maps in
    let at : c.args.number ≡ suc (length before) = last.number_is ∙ number_is before (g.M.SortedMaps.maps t) state definition c.args.first x can in
    let here : new (suc (length before)) ≡ filled (g.M.SortedMaps.maps t (suc (length before))) c.args.first =
    subst (λ y. new (suc (length before)) ≡ filled (g.M.SortedMaps.maps y (suc (length before))) c.args.first) c.maps_mut.ensures.value
    (subst (λ (n : ℕ). new n ≡ filled (g.M.SortedMaps.maps c.maps_mut.result.now n) c.args.first) at c.put_all.ensures.map) in
    subst (λ (l : Definitions). IsHeld l new c.forget_rows.new.self (with_object x (object_of definition))) (sym last.are)
    (subst (λ (s : State). IsHeld (before ++ definition ∷ []) new s (with_object x (object_of definition))) (sym c.forget_rows.ensures)
    (defined_held before (g.M.SortedMaps.maps t) state definition c.args.first x can c.row_law.ensures.spelling c.key_law.ensures.spelling new here
    (λ i ne. c.put_all.ensures.others i (λ e. ne (e ∙ at)) ∙ ap (λ y. g.M.SortedMaps.maps y i) c.maps_mut.ensures.value)))

pub returns-clause-entries : goal.returns-clause-entries
returns-clause-entries g c = c.put_all.ensures.map ∙ ap (λ y. filled (g.M.SortedMaps.maps y c.args.number) c.args.first) c.maps_mut.ensures.value

pub returns-clause-others : goal.returns-clause-others
returns-clause-others g c = λ i ne. c.put_all.ensures.others i ne ∙ ap (λ y. g.M.SortedMaps.maps y i) c.maps_mut.ensures.value

pub returns-clause-other_rooms : goal.returns-clause-other_rooms
returns-clause-other_rooms g c = λ i ne. subst (λ y. g.M.SortedMaps.spare y i ≤ g.M.SortedMaps.spare c.put_all.new.maps i) c.maps_mut.ensures.value (c.put_all.ensures.other_rooms i ne)
