-- No clause of `run` rests on this module: it serves contracts between crates.
--
-- What is true of the fields of `PageMaps`.
use Rattle.std.specs.Prelude.{◌≡◌, ◌+◌, ◌≤◌, length}
use Rattle.iv_types.specs.Maps.{last_index}
use Rattle.slot_page.specs.Page.{whole_page}
use Rattle.ordered_index.specs.Row.{least_pages, most_pages}
use Rattle.ordered_index.specs.Flat.{items, IsForest, TightOutside, AllTop, counted}
use Rattle.ordered_index.specs.Tree.{Tree, data_limit}
use Rattle.ordered_index.specs.declared.page_maps.PageMaps.TheInside.{Inside}

abbrev pub tree_of : Inside → Tree
tree_of a = record { pages = a.leaves.pages; kept = a.kept.items; all = items a.leaves.leaves }

pub record IsGood (a : Inside) : Type 0 where
  pub forest : IsForest a.leaves.leaves
  pub tight : TightOutside 0 0 a.leaves.leaves
  pub top : AllTop (items a.leaves.leaves)
  pub sum : a.used ≡ counted (items a.leaves.leaves)
  pub within : counted (items a.leaves.leaves) ≤ data_limit a.leaves.pages
  pub least : least_pages ≤ a.leaves.pages
  pub most : a.leaves.pages ≤ most_pages
  pub indexes : length a.kept.items ≡ last_index + 1
  pub buffer : length a.buffer.items ≡ whole_page
