use Rattle.std.proofs.Common.{◌≡◌, ◌++◌, ◌∷◌, [], ◌+◌, ℕ, suc, length, Option, arith}
use mathlib.Core.Path.{sym, ap, subst, ◌∙◌}
use Rattle.iv_types.specs.Definitions.{Definitions}
use Rattle.iv_types.specs.Maps.{IsWithin, used}
use Rattle.iv_meaning.specs.Objects.{object_of}
use Rattle.table_store.specs.Changes.{sizes}
use Rattle.table_store.specs.Filling.{CanPutAll, filled}
use Rattle.ghost_rows.specs.State.{State}
use Rattle.data_store.specs.Held.{IsHeld}
use Rattle.data_defining.specs.Defining.{with_object}
use Rattle.data_defining.proofs.Defined.{number_is, can_put, defined_held}
use Rattle.definition_replay.proofs.Replayed.{both_ok}
use Rattle.definition_replay.proofs.entering.enter.Goals as goal

pub put_each-requires-after_bounds : goal.put_each-requires-after_bounds
put_each-requires-after_bounds g c κs within =
    let q = c.requires.begins in
    let ds = c.args.store.now.catalog in
    let t = c.args.store.now.tables in
    let state = c.args.store.now.views in
    let maps = g.M.SortedMaps.maps in
    let limit = g.M.SortedMaps.limit in
    let first = c.args.first in
    let at : c.number-number.result ≡ suc (length ds) = c.number-number.ensures ∙ number_is ds (maps t) state c.args.definition first q.0 q.1 in
    subst (λ x. CanPutAll c.number-number.result (maps x) (length first) (limit x) first) (sym c.maps_mut.ensures.value)
    (subst (λ (n : ℕ). CanPutAll n (maps t) (length first) (limit t) first) (sym at)
    (can_put ds (maps t) state c.args.definition first q.0 q.1 c.row_law.ensures.spelling c.key_law.ensures.spelling (length first) (limit t) (omega arith)
    (subst (λ (l : Option ℕ). IsWithin l (used (maps t) + sizes first)) (sym c.requires.limit) tt)))

pub returns-clause-held : goal.returns-clause-held
returns-clause-held g c = both_ok c.put_each.result (λ entries others x can.
    let ds = c.args.store.now.catalog in
    let d = c.args.definition in
    let t = c.args.store.now.tables in
    let state = c.args.store.now.views in
    let maps = g.M.SortedMaps.maps in
    let first = c.args.first in
    let new = maps c.put_each.new.maps in
    let at : c.number-number.result ≡ suc (length ds) = c.number-number.ensures ∙ number_is ds (maps t) state d first x can in
    let here : new (suc (length ds)) ≡ filled (maps t (suc (length ds))) first =
    subst (λ y. new (suc (length ds)) ≡ filled (maps y (suc (length ds))) first) c.maps_mut.ensures.value
    (subst (λ (n : ℕ). new n ≡ filled (maps c.maps_mut.result.now n) first) at entries) in
    subst (λ (l : Definitions). IsHeld l new state (with_object x (object_of d))) (sym c.in_ok-add.ensures.ok)
    (subst (λ (s : State). IsHeld (ds ++ d ∷ []) new s (with_object x (object_of d))) (sym (ap (λ rows. record state { rows = rows }) c.requires.closed))
    (defined_held ds (maps t) state d first x can c.row_law.ensures.spelling c.key_law.ensures.spelling new here
    (λ i ne. others i (λ e. ne (e ∙ at)) ∙ ap (λ y. maps y i) c.maps_mut.ensures.value)))) c.put_each.ensures.entries c.put_each.ensures.others
