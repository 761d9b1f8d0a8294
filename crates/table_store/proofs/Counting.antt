-- What the maps of lists count, through a change of one list.
use Rattle.std.specs.Prelude.{◌≡◌, ◌≢◌, ℕ, ◌+◌, ◌*◌, ◌^◌, ◌<◌, ◌≤◌, List, length, slice_index_or, Some, None}
use mathlib.Core.Path.{sym, ap, subst, ◌∙◌}
use mathlib.Core.Logic.{inl, inr}
use Rattle.std.proofs.Common.{arith, set, length-set}
use Rattle.std.proofs.lemmas.Bool.{cases_eq}
use Rattle.std.proofs.lemmas.List.{get_or-set_same, get_or-set_other}
use Rattle.std.specs.FinMap.{get, insert, remove, empty}
use Rattle.iv_types.specs.Maps.{Map, Entry, entry_size, map_size}
use Rattle.iv_types.proofs.MapSizes.{size_most, size_nothing, used_moved, used_with}
use Rattle.table_store.specs.Lists.{Listed, AreCounted, map_at, most_of_list, unheld}
use Rattle.table_store.proofs.Maps.{entries-empty}

pub size_of_empty : map_size empty ≡ 0
size_of_empty = ap sizes entries-empty
  where
    sizes : List Entry → ℕ
    sizes es = Rattle.std.specs.Prelude.sum_by entry_size es

pub map_set : (lists : List Listed) (index : ℕ) (new : Listed) → index < length lists → map_at (set lists index new) index ≡ new.map
map_set lists index new lt = ap (λ (l : Listed). l.map) (get_or-set_same lists index new unheld lt)

pub map_unset : (lists : List Listed) (index i : ℕ) (new : Listed) → i ≢ index → map_at (set lists index new) i ≡ map_at lists i
map_unset lists index i new ne = ap (λ (l : Listed). l.map) (get_or-set_other lists index i new unheld ne)

-- a list in place of one of them
pub counted_list : (lists : List Listed) (index : ℕ) (new : Listed) (count after : ℕ) → AreCounted lists count → index < length lists → map_size new.map ≤ most_of_list
    → after + map_size (map_at lists index) ≡ count + map_size new.map → AreCounted (set lists index new) after
counted_list lists index new count after c lt most is = record {
  all = length-set lists index new ∙ c.all;
  count_is = let moved = used_moved (map_at lists) (map_at (set lists index new)) index (omega (arith, c.all)) (λ i ne. map_unset lists index i new ne) in
      omega (arith, is, moved, c.count_is, ap map_size (map_set lists index new lt));
  most = λ i. elim (cases_eq i index) [
    | inl e ↦ subst (λ (m : Map). map_size m ≤ most_of_list) (sym (ap (map_at (set lists index new)) e ∙ map_set lists index new lt)) most
    | inr ne ↦ subst (λ (m : Map). map_size m ≤ most_of_list) (sym (map_unset lists index i new ne)) (c.most i)
  ];
}

pub counted_few : (lists : List Listed) (count : ℕ) → AreCounted lists count → count ≤ 193 * most_of_list
counted_few lists count c = omega (arith, c.count_is, size_most (map_at lists) most_of_list 193 c.most)

pub counted_least : (lists : List Listed) (count index : ℕ) → AreCounted lists count → index < length lists → map_size (map_at lists index) ≤ count
counted_least lists count index c lt = omega (arith, c.all, c.count_is, used_with (map_at lists) index empty (omega (arith, c.all)), size_of_empty)

pub counted_none : (lists : List Listed) → length lists ≡ 193 → ((i : ℕ) → map_at lists i ≡ empty) → AreCounted lists 0
counted_none lists all none = record {
  all = all;
  count_is = sym (size_nothing (map_at lists) 193 (λ i. ap map_size (none i) ∙ size_of_empty));
  most = λ i. omega (arith, ap map_size (none i), size_of_empty);
}
