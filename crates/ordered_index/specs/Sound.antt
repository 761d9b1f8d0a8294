-- No clause of `run` rests on this module: it serves contracts between crates.
--
-- What is true of the fields of `Leaves`.
use Rattle.std.specs.Prelude.{◌≤◌, length, vec_capacity}
use Rattle.ordered_index.specs.Row.{Row, pages_of, leaves_of, IsRow}
use Rattle.ordered_index.specs.declared.leaves.Leaves.TheInside.{Inside}

abbrev pub row_of : Inside → Row
row_of a = record { pages = length (pages_of a.store); leaves = leaves_of (pages_of a.store) a.order.items }

-- each page is in order or free, and the two lists have room for all
pub record IsSound (a : Inside) : Type 0 where
  pub row : IsRow (pages_of a.store) a.order.items a.free.items
  pub order_room : length (pages_of a.store) ≤ vec_capacity a.order
  pub free_room : length (pages_of a.store) ≤ vec_capacity a.free
