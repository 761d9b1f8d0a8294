-- No clause of `run` rests on this module: it serves contracts between crates.
--
-- The map of a tree's entries.
use Rattle.std.specs.Prelude.{◌≡◌, ℕ, ◌≤◌, List, map, length}
use Rattle.std.specs.List.{AllByRecursion}
use Rattle.std.specs.FinMap.{FinMap, entries, from_sorted}
use Rattle.table_laws.specs.Place.{Place, place_cmp}
use Rattle.iv_types.specs.Maps.{Map, Entry, entry_size}
use Rattle.table_store.specs.Lists.{largest_entry}

-- bytes under places
abbrev pub Held : Type 0
Held = FinMap place_cmp (List ℕ)

-- an entry under the bytes of its place alone
abbrev pub keyed : Place × List ℕ → Entry
keyed e = (e.0.1, e.1)

-- the entries, each under the bytes of its place alone
abbrev pub map_of : Held → Map
map_of held = from_sorted (map keyed (entries held))

-- an entry that an index can hold, at a place whose number is 0
pub record IsOwn (e : Place × List ℕ) : Type 0 where
  pub number : e.0.0 ≡ 0
  pub size : entry_size (keyed e) ≤ largest_entry

-- such entries, and so many
pub record AreOwn (held : Held) (count : ℕ) : Type 0 where
  pub each : AllByRecursion IsOwn (entries held)
  pub count_is : length (entries held) ≡ count
