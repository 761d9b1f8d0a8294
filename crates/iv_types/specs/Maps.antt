-- No clause of `run` rests on this module: it serves contracts between crates.
--
-- Maps in the order of their keys' bytes, one for each index, and what their entries take of a limit.
use Rattle.std.specs.Prelude.{ℕ, zero, suc, ◌+◌, ◌≤◌, ◌==◌, Bool, List, [], ◌∷◌, length, sum_by, Option, None, Some, if◌then◌else◌}
use Rattle.std.specs.FinMap.{FinMap, entries}
use Rattle.std.specs.Ordering.{nat_cmp, is_ge, is_gt}
use Rattle.std.specs.Cmp.Lexicographic.{slice_cmp}

-- the values of an index under their keys
abbrev pub Map : Type 0
Map = FinMap (slice_cmp nat_cmp) (List ℕ)

-- a key and its value
abbrev pub Entry : Type 0
Entry = List ℕ × List ℕ

-- ---- the first entry from a key on

-- the first entry whose key passes a test
abbrev pub first_where : (List ℕ → Bool) → List Entry → Option Entry
first_where test [] = None
first_where test (e ∷ es) = if test e.0 then Some e else first_where test es

-- the first entry at the key or after it
abbrev pub entry_at : Map → List ℕ → Option Entry
entry_at m key = first_where (λ k. is_ge (slice_cmp nat_cmp k key)) (entries m)

-- the first entry after the key
abbrev pub entry_after : Map → List ℕ → Option Entry
entry_after m key = first_where (λ k. is_gt (slice_cmp nat_cmp k key)) (entries m)

-- ---- what can be held

-- the indexes are 0 and those of 192 objects
abbrev pub last_index : ℕ
last_index = 192

-- the most bytes of a key, and of a value
abbrev pub longest_key : ℕ
longest_key = 1024

abbrev pub longest_value : ℕ
longest_value = 2048

-- an entry that an index can hold
pub record CanHold (index : ℕ) (key value : List ℕ) : Type 0 where
  pub of_index : index ≤ last_index
  pub of_key : length key ≤ longest_key
  pub of_value : length value ≤ longest_value

-- ---- what the entries take

-- an entry counts the bytes of its key and of its value, and 8
abbrev pub entry_size : Entry → ℕ
entry_size e = length e.0 + length e.1 + 8

abbrev pub map_size : Map → ℕ
map_size m = sum_by entry_size (entries m)

-- the entries of the indexes below n
unfoldable pub size_below : (ℕ → Map) → ℕ → ℕ
size_below maps zero = 0
size_below maps (suc n) = size_below maps n + map_size (maps n)

-- the entries of all indexes
abbrev pub used : (ℕ → Map) → ℕ
used maps = size_below maps (suc last_index)

-- the maps, with this one as that of an index
abbrev pub with_map : (ℕ → Map) → ℕ → Map → ℕ → Map
with_map maps index m i = if i == index then m else maps i

-- at most the limit, where there is one
abbrev pub IsWithin : Option ℕ → ℕ → Type 0
IsWithin None n = Unit {0}
IsWithin (Some most) n = n ≤ most
