-- No clause of `run` rests on this module: it serves contracts between crates.
--
-- The rows of a view as they are stored.
use Rattle.std.specs.Prelude.{◌≡◌, ℕ, ℤ, List, [], ◌∷◌, Some}
use Rattle.std.specs.FinMap.{get}
use Rattle.iv_types.specs.declared.lock.ViewRow.{ViewRow}
use Rattle.iv_types.specs.Maps.{Map, Entry}
use Rattle.ghost_rows.specs.Numbers.{numbers_bytes, Fits128}

-- the numbers of a count and of sums
pub record IsViewRow (value : List ℕ) : Type 0 where
  pub count : ℤ
  pub sums : List ℤ
  pub fits : Fits128 (count ∷ sums)
  pub bytes : value ≡ numbers_bytes (count ∷ sums)

-- each entry is a row of a view
abbrev pub AreViewRows : Map → Type 0
AreViewRows m = (key value : List ℕ) → get m key ≡ Some value → IsViewRow value

-- an entry as the row that it is
pub record ShowsOne (key value : List ℕ) (row : ViewRow) : Type 0 where
  pub group : row.group ≡ key
  pub bytes : value ≡ numbers_bytes (row.count ∷ row.sums)

-- entries as the rows that they are, in their order
abbrev pub Shows : List Entry → List ViewRow → Type 0
Shows [] [] = Unit {0}
Shows (e ∷ es) (row ∷ rows) = ShowsOne e.0 e.1 row × Shows es rows
Shows _ _ = ⊥
