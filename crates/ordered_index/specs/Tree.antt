-- No clause of `run` rests on this module: it serves contracts between crates.
--
-- What callers see of `PageMaps`: all entries in one order, and a sorted map for each index.
use Rattle.std.specs.Prelude.{ℕ, ◌+◌, ◌-◌, ◌*◌, ◌^◌, ◌≤◌, Bool, List, length, Option, Some}
use Rattle.std.specs.FinMap.{entries, from_sorted}
use Rattle.iv_types.specs.Maps.{Map}
use Rattle.ordered_index.specs.Flat.{Item, Rising, AllTop, of_index, counted}

-- how many pages there are, which indexes are stored, and all entries by index and then by key
pub record Tree : Type 0 where
  pub pages : ℕ
  pub kept : List Bool
  pub all : List Item

-- the map of an index
unfoldable pub map_of : Tree → ℕ → Map
map_of t index = from_sorted (of_index index t.all)

-- pages that no entries are counted on, and what each other page may hold
abbrev pub spare_pages : ℕ
spare_pages = 256

abbrev pub page_share : ℕ
page_share = 1200

-- the most that all entries may count
abbrev pub data_limit : ℕ → ℕ
data_limit pages = (pages - spare_pages) * page_share

abbrev pub limit_of : Tree → Option ℕ
limit_of t = Some (data_limit t.pages)

-- Below the limit room is never wanting: there is room for as many entries as can be asked for, and more by as many as
-- the limit leaves.
abbrev pub spare_of : Tree → ℕ → ℕ
spare_of t index = 2 ^ 32 - 1 + (data_limit t.pages - length (entries (map_of t index)))

-- the entries rise, of indexes that there are, and count no more than the limit
pub record IsTree (t : Tree) : Type 0 where
  pub rising : Rising t.all
  pub top : AllTop t.all
  pub within : counted t.all ≤ data_limit t.pages
