use Rattle.std.proofs.Common.{rules, ◌≡◌, ℕ, List, Some, None, IsSome, true, false, cond, Bor, sym, ap, subst, ◌∙◌}
use Rattle.std.specs.Prelude.{Option, ◌==◌}
use Rattle.std.specs.Option.{option_map}
use Rattle.std.specs.FinMap.{get, entries}
use Rattle.table_laws.specs.Place.{Place}
use Rattle.spare_map.specs.Trees as places
use Rattle.data_store.specs.Past.{IsLeast}
use Rattle.data_store.proofs.Merging.{key_in, place_least}
use Rattle.data_store.proofs.store.DataStore.pending_from.Goals as goal
use Rattle.data_store.proofs.store.DataStore.pending_from.Goals.{in_default-via-in-Some+else-of-index, in_default-via-in_default}

abbrev place_in : Option (ℕ × Bor (List ℕ)) → Option Place
place_in o = option_map (λ p. (p.0, p.1.now)) o

pub returns-in-Some : goal.returns-in-Some
returns-in-Some g c =
    let pending = c.args.self.now.pending.entries in
    let key : List ℕ = c.args.key.now in
    let index : ℕ = c.args.index in
    let found : option_map (λ e. e.0) (places.first_where (places.is_from false (index, key)) (entries pending)) ≡ Some (c.in-Some.of, c.in-Some.found.now) = sym c.first_at.ensures ∙ ap place_in c.in-Some.is in
    let same : (c.in-Some.of == index) ≡ true = search rules in
    subst (IsLeast (λ k. IsSome (get pending (index, k))) key) (ap (key_in index) found ∙ ap (λ b. cond b (Some c.in-Some.found.now) None) same) (place_least pending index key)

pub returns-in_default : goal.returns-in_default
returns-in_default g c =
    let pending = c.args.self.now.pending.entries in
    let key : List ℕ = c.args.key.now in
    let index : ℕ = c.args.index in
    let none : key_in index (option_map (λ e. e.0) (places.first_where (places.is_from false (index, key)) (entries pending))) ≡ None = elim c.in_default.branch [
      | in_default-via-in-Some+else-of-index w ↦
          let other : (w.in-Some.of == index) ≡ false = search rules in
          ap (key_in index) (sym c.first_at.ensures ∙ ap place_in w.in-Some.is) ∙ ap (λ b. cond b (Some w.in-Some.found.now) None) other
      | in_default-via-in_default w ↦ ap (key_in index) (sym c.first_at.ensures ∙ ap place_in w.in_default.is)
    ] in
    subst (IsLeast (λ k. IsSome (get pending (index, k))) key) none (place_least pending index key)
