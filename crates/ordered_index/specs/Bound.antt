-- No clause of `run` rests on this module: it serves contracts between crates.
--
-- The page bound.
use Rattle.std.specs.Prelude.{ℕ, ◌+◌, ◌≤◌, List, length}
use Rattle.ordered_index.specs.Row.{Leaf, least_pages}
use Rattle.ordered_index.specs.Flat.{IsForest, TightOutside, AllTop, items, counted}
use Rattle.ordered_index.specs.Tree.{data_limit}

-- the pages that are left for the work inside one call, at least
abbrev pub free_pages : ℕ
free_pages = 63

-- leaves in order of which no neighbours fit together, with entries within the limit, leave pages free
abbrev pub PageBound : Type 0
PageBound = (leaves : List Leaf) (pages : ℕ) → IsForest leaves → TightOutside 0 0 leaves → AllTop (items leaves) → least_pages ≤ pages → counted (items leaves) ≤ data_limit pages → length leaves + free_pages ≤ pages
