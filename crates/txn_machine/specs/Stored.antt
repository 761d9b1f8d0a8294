-- No clause of `run` rests on this module: it serves contracts between crates.
--
-- View rows as they are stored: each at its view and its encoded group, with its count and then its sums. Deltas are
-- added to them while their transactions are open.
use Rattle.std.specs.Prelude.{◌≡◌, ℕ, zero, suc, ℤ, pos, ◌+ℤ◌, ◌==◌, ◌&&◌, not, Bool, List, [], ◌∷◌, ◌++◌, map, length, get_or, Some}
use Rattle.std.specs.List.{AllZip}
use Rattle.std.specs.Option.{option_map_or, unwrap_or}
use Rattle.std.specs.Ordering.{int_cmp, is_eq}
use Rattle.std.specs.FinMap.{FinMap, get, entries}
use Rattle.iv_types.specs.declared.value.Interval.{Interval}
use Rattle.iv_types.specs.declared.value.Value.TheVariants.{Number}
use Rattle.iv_types.specs.declared.lock.GroupDelta.{GroupDelta}
use Rattle.iv_types.specs.Encoding.{FitAll, key_bytes, lies_in}
use Rattle.table_laws.specs.Place.{Place, place_cmp}
use Rattle.table_laws.specs.Table.{write, rows_where}
use Rattle.iv_meaning.specs.Schema as object
use Rattle.iv_meaning.specs.Schema.{Schema, ViewTree, numbered, group_kinds}
use Rattle.iv_meaning.specs.Database.{Row}
use Rattle.txn_machine.specs.Deltas.{columns_of, place_of}

abbrev pub ViewRows : Type 0
ViewRows = FinMap place_cmp (List ℤ)

-- a column of a stored row, 0 where none is stored
abbrev pub stored_number : ViewRows → Place → ℕ → ℤ
stored_number view place column = option_map_or (λ numbers. get_or numbers column (pos 0)) (get view place) (pos 0)

-- column by column
abbrev pub plus : List ℤ → List ℤ → List ℤ
plus [] ns = ns
plus (m ∷ ms) [] = m ∷ ms
plus (m ∷ ms) (n ∷ ns) = (m +ℤ n) ∷ plus ms ns

-- a delta added to the row of its group
abbrev pub add_to : ViewRows → GroupDelta → ViewRows
add_to view d = write view (place_of d) (Some (plus (unwrap_or (get view (place_of d)) []) (columns_of d)))

abbrev pub add_all : ViewRows → List GroupDelta → ViewRows
add_all view [] = view
add_all view (d ∷ ds) = add_all (add_to view d) ds

-- a row of zeros
abbrev pub zeros : ℕ → List ℤ
zeros zero = []
zeros (suc columns) = pos 0 ∷ zeros columns

-- ---- the shape of stored rows

-- a row of a view of the schema: under the key of a group, with a count and a number for each sum
pub record IsStoredRow (objects : Schema) (place : Place) (numbers : List ℤ) : Type 0 where
  pub of : ViewTree
  pub view_is : numbered objects place.0 ≡ Some (object.view of)
  pub group : Row
  pub fits : FitAll (group_kinds objects of) group
  pub key : place.1 ≡ key_bytes (group_kinds objects of) group
  pub width : length numbers ≡ suc (length of.sums)

abbrev pub AreStored : Schema → ViewRows → Type 0
AreStored objects stored = (place : Place) (numbers : List ℤ) → get stored place ≡ Some numbers → IsStoredRow objects place numbers

-- ---- what a view shows

-- so many of some numbers, 0 where there are fewer
abbrev pub first_numbers : ℕ → List ℤ → List ℤ
first_numbers zero ns = []
first_numbers (suc n) [] = pos 0 ∷ first_numbers n []
first_numbers (suc n) (m ∷ ms) = m ∷ first_numbers n ms

-- the row of an encoded group: the group's values, the count and the view's sums
pub record IsShown (objects : Schema) (v : ViewTree) (stored : Place × List ℤ) (row : Row) : Type 0 where
  pub group : Row
  pub fits : FitAll (group_kinds objects v) group
  pub key : key_bytes (group_kinds objects v) group ≡ stored.0.1
  pub row_is : row ≡ group ++ map Number (first_numbers (suc (length v.sums)) stored.1)

-- the stored rows of a view in an interval, without those of a count of 0
abbrev pub is_shown : ℕ → Interval → Place → List ℤ → Bool
is_shown view interval place numbers = (place.0 == view) && lies_in place.1 interval && not (is_eq (int_cmp (get_or numbers 0 (pos 0)) (pos 0)))

-- in the order of their groups
abbrev pub Lists : Schema → ViewTree → Interval → ViewRows → List Row → Type 0
Lists objects v interval view rows = AllZip (IsShown objects v) (rows_where (is_shown v.number interval) (entries view)) rows
