use Rattle.std.proofs.Common.{◌≡◌, ◌+◌, ◌++◌, ◌∷◌, [], ℕ, List, drop, get_or, sym, ap, ◌∙◌, append_assoc}
use Rattle.std.proofs.lemmas.List.{drop_more}
use Rattle.table_store.specs.Stored.{key_at}
use Rattle.table_store.proofs.IndexKeys.{key_next}
use Rattle.table_store.proofs.row_entries.put_places.Goals as goal

pub loop-place-preserved : goal.loop-place-preserved
loop-place-preserved c =
    let t = c.args.table.now in
    let row = c.args.row.now in
    let places = c.args.places.now in
    let at = c.loop-place.place-index in
    let split : drop at places ≡ get_or places at 0 ∷ drop (at + 1) places = drop_more places at 0 c.loop-place-test.true in
    let next : key_at t (drop at places) row ≡ key_at t (get_or places at 0 ∷ []) row ++ key_at t (drop (at + 1) places) row =
    ap (λ (l : List ℕ). key_at t l row) split ∙ key_next t (get_or places at 0) (drop (at + 1) places) row c.requires in
    ap (λ (l : List ℕ). l ++ key_at t (drop (at + 1) places) row) c.in_ok-put_place.ensures
    ∙ (append_assoc c.loop-place.out.items (key_at t (get_or places at 0 ∷ []) row) (key_at t (drop (at + 1) places) row)
    ∙ (ap (λ (l : List ℕ). c.loop-place.out.items ++ l) (sym next) ∙ c.loop-place.invariant))
