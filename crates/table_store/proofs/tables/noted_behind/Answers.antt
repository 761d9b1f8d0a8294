use Rattle.std.proofs.Common.{◌≡◌, ◌+◌, ◌-◌, ◌++◌, ◌^◌, List, ℕ, length, min, sym, ap, ◌∙◌}
use Rattle.std.specs.FinMap.{get}
use Rattle.iv_meaning.specs.Database.{key_of}
use Rattle.table_store.specs.Stored.{key_at}
use Rattle.table_store.proofs.Rows.{some_same}
use Rattle.table_store.proofs.tables.noted_behind.Goals as goal

pub returns : goal.returns
returns g c = λ row is.
    let t = c.args.table.now in
    let m = g.M.SortedMaps.maps c.args.maps.now t.number in
    let key : c.primary_part-key.result.now ≡ key_of t row =
    c.primary_part-key.ensures row is.fits (is.at_is ∙ ap (λ (places : List ℕ). key_at t (places ++ t.primary) row) (sym c.as_slice.ensures)) in
    c.saturating_add.ensures ∙ ap (λ (b : List ℕ). min (length b + 16) (2 ^ 64 - 1)) (some_same _ _ (c.in-Some.ensures ∙ (ap (get m) key ∙ is.stands)))
