-- An index can hold what stands in it, through a change of one map.
use Rattle.std.proofs.Common.{◌≡◌, ◌<◌, ◌≤◌, ◌∙◌, refl, sym, ap, subst, arith, ℕ, Bool, true, false, cond, List, length, Some, None, set}
use mathlib.Core.Logic.{inl, inr}
use Rattle.std.proofs.lemmas.Bool.{cases_eq}
use Rattle.std.specs.Ordering.{eq_by_cmp}
use Rattle.std.specs.FinMap.{get, insert, remove, empty, get-empty, get-insert, get-remove}
use Rattle.std.specs.Cmp.Lexicographic.{nat_list_cmp_total}
use Rattle.iv_types.specs.Maps.{Map, CanHold, map_size}
use Rattle.table_store.specs.Lists.{Listed, map_at, most_of_list}
use Rattle.table_store.proofs.Counting.{map_set, map_unset, counted_list}
use Rattle.table_store.proofs.Maps.{by_bytes, bytes_same}
use Rattle.table_store.proofs.Places.{equal}
use Rattle.tree_maps.specs.Holding.{AreHeld, AreMaps}

-- in one map
abbrev pub HoldsIn : ℕ → Map → Type 0
HoldsIn index m = (key value : List ℕ) → get m key ≡ Some value → CanHold index key value

pub held_none : (lists : List Listed) → ((index : ℕ) → map_at lists index ≡ empty) → AreHeld lists
held_none lists none index key value there = absurd (let e : None ≡ Some value = sym (get-empty by_bytes key) ∙ (ap (λ (m : Map). get m key) (sym (none index)) ∙ there) in cc)

-- a map in place of one of them
pub held_list : (lists : List Listed) (index : ℕ) (new : Listed) → AreHeld lists → index < length lists → HoldsIn index new.map → AreHeld (set lists index new)
held_list lists index new held inside own i key value there = elim (cases_eq i index) [
  | inl same ↦ subst (λ n. CanHold n key value) (sym same)
      (own key value (ap (λ (m : Map). get m key) (sym (ap (map_at (set lists index new)) same ∙ map_set lists index new inside)) ∙ there))
  | inr other ↦ held i key value (ap (λ (m : Map). get m key) (sym (map_unset lists index i new other)) ∙ there)
]

module _ (index : ℕ) (m : Map) (key : List ℕ) (holds : HoldsIn index m) where
  -- with an entry more, or another value
  pub held_put : (value : List ℕ) → CanHold index key value → HoldsIn index (insert m key value)
  held_put value can k v there = by (eq_by_cmp by_bytes k key) refl (sym (get-insert nat_list_cmp_total m key value k) ∙ there)
    where
      by : (b : Bool) → eq_by_cmp by_bytes k key ≡ b → cond b (Some value) (get m k) ≡ Some v → CanHold index k v
      by true same e =
          let key_is : key ≡ k = sym (bytes_same k key (equal _ same)) in
          let value_is : value ≡ v = cc in
          subst (λ x. CanHold index x v) key_is (subst (CanHold index key) value_is can)
      by false other e = holds k v e

  -- without one
  pub held_left : HoldsIn index (remove m key)
  held_left k v there = by (eq_by_cmp by_bytes k key) (sym (get-remove nat_list_cmp_total m key k) ∙ there)
    where
      by : (b : Bool) → cond b None (get m k) ≡ Some v → CanHold index k v
      by true e = absurd cc
      by false e = holds k v e

-- a map with more room
pub roomier : (lists : List Listed) (index : ℕ) (new : Listed) (count : ℕ) → AreMaps lists count → index < length lists → new.map ≡ map_at lists index → AreMaps (set lists index new) count
roomier lists index new count are inside same = record {
  counted = counted_list lists index new count count are.counted inside (subst (λ (m : Map). map_size m ≤ most_of_list) (sym same) (are.counted.most index)) (omega (arith, ap map_size same));
  held = held_list lists index new are.held inside (subst (HoldsIn index) (sym same) (are.held index));
}
