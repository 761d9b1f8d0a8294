-- No clause of `run` rests on this module: it serves contracts between crates.
--
-- Maps as sorted lists.
use Rattle.std.specs.Prelude.{◌≡◌, ℕ, zero, suc, ◌+◌, ◌-◌, ◌*◌, ◌^◌, ◌≤◌, T, Bool, true, false, List, [], ◌∷◌, length, slice_index_or, refl}
use Rattle.std.specs.List.{All}
use Rattle.std.specs.Ordering.{nat_cmp}
use Rattle.std.specs.Cmp.Lexicographic.{slice_cmp}
use Rattle.std.specs.FinMap.{empty, code, is_sorted}
use Rattle.std.specs.Coded.{Coded, coded_ℕ, coded_list, coded×, code_by}
use Rattle.iv_types.specs.Maps.{Map, Entry, entry_size, map_size, longest_key, longest_value, used}

-- a map that is kept as a list, and for how many entries more the list has room
pub record Listed : Type 0 where
  pub map : Map
  pub spare : ℕ

abbrev pub coded_listed : Coded Listed
coded_listed = code_by (Map × ℕ) (coded× (code (coded_list coded_ℕ) (coded_list coded_ℕ)) coded_ℕ) (λ l. (l.map, l.spare)) (λ p. record { map = p.0; spare = p.1 }) (λ _. refl)

-- the most that an entry counts, by what an index can hold
abbrev pub largest_entry : ℕ
largest_entry = longest_key + longest_value + 8

-- the most that the entries of a list count, of which there are fewer than 2 ^ 64
abbrev pub most_of_list : ℕ
most_of_list = 2 ^ 64 * largest_entry

-- a list in the order of its keys, of entries that an index can hold
pub record IsKept (es : List Entry) : Type 0 where
  pub sorted : T (is_sorted (slice_cmp nat_cmp) es)
  pub sizes : All (λ e. entry_size e ≤ largest_entry) es

-- past the last index nothing is held, and no room is wanting
abbrev pub unheld : Listed
unheld = record { map = empty; spare = 2 ^ 32 - 1 }

abbrev pub map_at : List Listed → ℕ → Map
map_at lists index = let list = slice_index_or lists index unheld in list.map

abbrev pub spare_at : List Listed → ℕ → ℕ
spare_at lists index = let list = slice_index_or lists index unheld in list.spare

-- the place that divides the entries: the keys before it pass the test, and the next one does not
abbrev pub IsPlace : {K X : Type 0} → (K → Bool) → List (K × X) → ℕ → Type 0
IsPlace test [] zero = Unit {0}
IsPlace test [] (suc at) = ⊥
IsPlace test (e ∷ es) zero = test e.0 ≡ false
IsPlace test (e ∷ es) (suc at) = (test e.0 ≡ true) × IsPlace test es at

-- The maps of these lists count so much, and each at most what a list can: an empty one counts nothing.
pub record AreCounted (lists : List Listed) (count : ℕ) : Type 0 where
  pub all : length lists ≡ 193
  pub count_is : count ≡ used (map_at lists)
  pub most : (i : ℕ) → map_size (map_at lists i) ≤ most_of_list
