use Rattle.std.proofs.Common.{◌≡◌, ◌+◌, ◌++◌, ◌∷◌, [], ℕ, List, drop, get_or, ap, ◌∙◌}
use Rattle.std.proofs.lemmas.List.{drop_more, drop_all}
use Rattle.table_store.specs.Stored.{key_at}
use Rattle.table_store.proofs.keys.primary_part.Goals as goal

pub loop-place-preserved : goal.loop-place-preserved
loop-place-preserved c = λ row f is.
    let t = c.args.table.now in
    let places = c.args.columns.now in
    let at = c.loop-place.place-index in
    let here : c.loop-place.rest.now ≡ key_at t (drop at places ++ t.primary) row = c.loop-place.invariant row f is in
    let split : drop at places ≡ get_or places at 0 ∷ drop (at + 1) places = drop_more places at 0 c.loop-place-test.true in
    c.after_place-rest.ensures row (drop (at + 1) places ++ t.primary) f (here ∙ ap (λ (l : List ℕ). key_at t (l ++ t.primary) row) split)

pub returns : goal.returns
returns c = λ row f is.
    let t = c.args.table.now in
    let places = c.args.columns.now in
    let none : drop c.loop-place.place-index places ≡ [] = drop_all _ places c.loop-place-test.false in
    c.loop-place.invariant row f is ∙ ap (λ (l : List ℕ). key_at t (l ++ t.primary) row) none
