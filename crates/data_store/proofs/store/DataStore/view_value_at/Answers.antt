use Rattle.std.proofs.Common.{◌≡◌, List, ℤ, Some, None, sym, ap, subst, ◌∙◌}
use Rattle.std.specs.Prelude.{Option, IfSome}
use Rattle.std.proofs.lemmas.Result.{IfOk-weaker}
use Rattle.ghost_rows.specs.Numbers.{numbers_bytes}
use Rattle.ghost_rows.specs.State.{stored_at}
use Rattle.ghost_rows.specs.Ghosts.{AreCommitted}
use Rattle.data_store.proofs.PastEntries.{value_is}
use Rattle.data_store.proofs.store.DataStore.view_value_at.Goals as goal

pub returns : goal.returns
returns g c =
    let S = g.M.SortedMaps in
    let store = c.args.self.now in
    let n = c.args.view in
    let group = c.args.group.now in
    let ns : List ℤ = c.in-Some.numbers in
    let found : AreCommitted store.views (S.maps c.maps-maps.result.now) (n, group) ns =
    subst (λ (o : Option (List ℤ)). IfSome o (AreCommitted store.views (S.maps c.maps-maps.result.now) (n, group))) c.in-Some.is c.in_ok-numbers.ensures.numbers in
    let committed : AreCommitted store.views (S.maps store.tables) (n, group) ns = subst (λ m. AreCommitted store.views (S.maps m) (n, group) ns) c.maps-maps.ensures found in
    IfOk-weaker c.at.result _ _ (λ value told past were.
    value_is c.args.number store.delta_versions.versions store.views (S.maps store.tables) n past were group ns
    (λ none. let gone : c.in_ok-numbers.field-0 ≡ None = c.in_ok-numbers.ensures.none.1 (subst (λ m. stored_at (S.maps m) (n, group) ≡ None) (sym c.maps-maps.ensures) none) in let clash : Some ns ≡ None = sym c.in-Some.is ∙ gone in cc)
    committed value c.as_slice-2.result.now (c.as_slice-2.ensures ∙ (c.in_ok-now.ensures ∙ ap numbers_bytes c.as_slice.ensures)) told) c.at.ensures.row
