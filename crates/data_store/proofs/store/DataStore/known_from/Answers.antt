use Rattle.std.proofs.Common.{◌≡◌, ℕ, List, false, IsSome, sym, subst}
use Rattle.std.specs.Prelude.{◌⊎◌}
use Rattle.std.specs.Option.{option_copied}
use Rattle.std.specs.FinMap.{get}
use Rattle.version_chain.specs.Chains.{is_empty}
use Rattle.data_store.specs.Past.{IsKnown, IsLeast}
use Rattle.data_store.proofs.Merging.{lesser_is}
use Rattle.data_store.proofs.store.DataStore.known_from.Goals as goal

pub returns : goal.returns
returns g c =
    let store = c.args.self.now in
    let maps = g.M.SortedMaps.maps store.tables in
    let key : List ℕ = c.args.key.now in
    let index : ℕ = c.args.index in
    let present : IsLeast (λ k. IsSome (get (maps index) k) ⊎ IsSome (get store.pending.entries (index, k))) key (option_copied c.lesser-present.result) =
    subst (IsLeast (λ k. IsSome (get (maps index) k) ⊎ IsSome (get store.pending.entries (index, k))) key) (sym c.lesser-present.ensures)
    (lesser_is (λ k. IsSome (get (maps index) k)) (λ k. IsSome (get store.pending.entries (index, k))) key (option_copied c.entry_from.result) (option_copied c.pending_from.result) c.entry_from.ensures c.pending_from.ensures) in
    let versions : IsLeast (λ k. is_empty (index, k) store.row_versions.versions ≡ false) key (option_copied c.first_from.result) = record { held = c.first_from.ensures.held; least = c.first_from.ensures.least } in
    subst (IsLeast (IsKnown store.row_versions.versions store.pending.entries maps index) key) (sym c.lesser.ensures)
    (lesser_is (λ k. IsSome (get (maps index) k) ⊎ IsSome (get store.pending.entries (index, k))) (λ k. is_empty (index, k) store.row_versions.versions ≡ false) key (option_copied c.lesser-present.result) (option_copied c.first_from.result) present versions)
