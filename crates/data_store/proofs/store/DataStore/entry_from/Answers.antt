use Rattle.std.proofs.Common.{◌≡◌, ℕ, List, Some, None, IsSome, sym, ap, subst, ◌∙◌}
use Rattle.std.specs.Option.{option_map}
use Rattle.std.specs.FinMap.{get}
use Rattle.iv_types.specs.Maps.{Entry, entry_at}
use Rattle.table_store.proofs.Walks.{place}
use Rattle.data_store.specs.Past.{IsLeast}
use Rattle.data_store.proofs.Merging.{entry_least}
use Rattle.data_store.proofs.store.DataStore.entry_from.Goals as goal

pub returns-in-Some : goal.returns-in-Some
returns-in-Some g c =
    let S = g.M.SortedMaps in
    let key : List ℕ = c.args.key.now in
    let found : Some (c.in-Some.found.now, c.in-Some.field-0-1.now) ≡ entry_at (S.maps c.args.self.now.tables c.args.index) key =
    sym (ap place c.in-Some.is) ∙ (c.first_at.ensures ∙ ap (λ s. entry_at (S.maps s c.args.index) key) c.maps.ensures) in
    subst (IsLeast (λ k. IsSome (get (S.maps c.args.self.now.tables c.args.index) k)) key) (ap (option_map (λ (e : Entry). e.0)) (sym found)) (entry_least (S.maps c.args.self.now.tables c.args.index) key)

pub returns-in-None : goal.returns-in-None
returns-in-None g c =
    let S = g.M.SortedMaps in
    let key : List ℕ = c.args.key.now in
    let found : None ≡ entry_at (S.maps c.args.self.now.tables c.args.index) key =
    sym (ap place c.in-None.is) ∙ (c.first_at.ensures ∙ ap (λ s. entry_at (S.maps s c.args.index) key) c.maps.ensures) in
    subst (IsLeast (λ k. IsSome (get (S.maps c.args.self.now.tables c.args.index) k)) key) (ap (option_map (λ (e : Entry). e.0)) (sym found)) (entry_least (S.maps c.args.self.now.tables c.args.index) key)
