-- No clause of `run` rests on this module: it serves contracts between crates.
--
-- What maps of trees always have.
use Rattle.std.specs.Prelude.{◌≡◌, ℕ, List, Some}
use Rattle.std.specs.FinMap.{get}
use Rattle.iv_types.specs.Maps.{CanHold}
use Rattle.table_store.specs.Lists.{Listed, AreCounted, map_at}

-- an index can hold each of its entries
abbrev pub AreHeld : List Listed → Type 0
AreHeld lists = (index : ℕ) (key value : List ℕ) → get (map_at lists index) key ≡ Some value → CanHold index key value

-- and they count so much
pub record AreMaps (lists : List Listed) (count : ℕ) : Type 0 where
  pub counted : AreCounted lists count
  pub held : AreHeld lists
