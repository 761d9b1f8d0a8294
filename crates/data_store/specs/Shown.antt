-- No clause of `run` rests on this module: it serves contracts between crates.
--
-- The rows that a view's entries show.
use Rattle.std.specs.Prelude.{◌≡◌, ℕ, ◌+◌, ◌-◌, ◌^◌, min, ℤ, pos, not, Bool, List, ◌∷◌, ◌++◌, map, filter, length, drop, get_or, Some}
use Rattle.std.specs.List.{AllByRecursion, AllZip, sum}
use Rattle.std.specs.FinMap.{get}
use Rattle.std.specs.Ordering.{int_cmp, is_eq}
use Rattle.iv_types.specs.declared.value.Kind.{Kind}
use Rattle.iv_types.specs.declared.value.Kind.TheVariants.{Huge}
use Rattle.iv_types.specs.declared.value.Value.TheVariants.{Number}
use Rattle.iv_types.specs.Encoding.{FitAll, key_bytes}
use Rattle.iv_types.specs.Maps.{Map, Entry}
use Rattle.iv_meaning.specs.Database.{Row}
use Rattle.txn_machine.specs.Counts.{row_size}
use Rattle.ghost_rows.specs.Numbers.{numbers_bytes, Fits128}

-- ---- stored rows

-- a row of a view as it is stored: its encoded group, its count and its sums
abbrev pub StoredRow : Type 0
StoredRow = List ℕ × List ℤ

-- the entries that such rows are
abbrev pub entries_of : List StoredRow → List Entry
entries_of stored = map (λ r. (r.0, numbers_bytes r.1)) stored

-- its count is not 0
abbrev pub stands : List ℤ → Bool
stands numbers = not (is_eq (int_cmp (get_or numbers 0 (pos 0)) (pos 0)))

-- an entry under the key of a group, with the bytes of a count and of sums
pub record IsGroupRow (kinds : List Kind) (key value : List ℕ) : Type 0 where
  pub group : Row
  pub fits : FitAll kinds group
  pub key_is : key ≡ key_bytes kinds group
  pub count : ℤ
  pub sums : List ℤ
  pub in_range : Fits128 (count ∷ sums)
  pub value_is : value ≡ numbers_bytes (count ∷ sums)

-- each entry is one
abbrev pub AreGroupRows : List Kind → Map → Type 0
AreGroupRows kinds m = (key value : List ℕ) → get m key ≡ Some value → IsGroupRow kinds key value

-- ---- what is shown

-- the group's values, the count and the sums
pub record IsShownAs (kinds : List Kind) (stored : StoredRow) (row : Row) : Type 0 where
  pub group : Row
  pub fits : FitAll kinds group
  pub key : key_bytes kinds group ≡ stored.0
  pub row_is : row ≡ group ++ map Number stored.1

-- of entries, the rows that stand for a group, in their order
pub record Shows (kinds : List Kind) (es : List Entry) (rows : List Row) : Type 0 where
  pub stored : List StoredRow
  pub in_range : AllByRecursion (λ r. Fits128 r.1) stored
  pub bytes : es ≡ entries_of stored
  pub shown : AllZip (IsShownAs kinds) (filter (λ r. stands r.1) stored) rows

-- ---- what rows count in a note

-- the kinds of a row that begins with a group: HUGE behind those of the group
abbrev pub wide : List Kind → Row → List Kind
wide kinds row = kinds ++ map (λ value. Huge) (drop (length kinds) row)

abbrev pub noted_row : List Kind → Row → ℕ
noted_row kinds row = row_size (wide kinds row) row + 16

abbrev pub noted_rows : List Kind → List Row → ℕ
noted_rows kinds rows = sum (map (noted_row kinds) rows)

-- this size, and what the rows of these entries count, are what the rows count: up to the end of a number of 64 bits
pub record Counts (kinds : List Kind) (es : List Entry) (size : ℕ) (rows : List Row) : Type 0 where
  pub others : List Row
  pub shows : Shows kinds es others
  pub size_is : min (size + noted_rows kinds others) (2 ^ 64 - 1) ≡ min (noted_rows kinds rows) (2 ^ 64 - 1)
