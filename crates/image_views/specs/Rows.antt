-- No clause of `run` rests on this module: it serves contracts between crates.
--
-- Stored rows of a view beside the rows that it has, evaluated afresh: both by encoded groups.
use Rattle.std.specs.Prelude.{◌≡◌, ◌≢◌, ℕ, ℤ, pos, Bool, true, false, T, List, ◌∷◌, map, length, get_or, Option, Some, None}
use Rattle.std.specs.Option.{option_map, option_map_or}
use Rattle.std.specs.FinMap.{get, find, is_sorted}
use Rattle.std.specs.Ordering.{nat_cmp, is_lt}
use Rattle.std.specs.Cmp.Lexicographic.{slice_cmp}
use Rattle.std.specs.declared.cmp.Ordering.TheVariants.{Less}
use Rattle.iv_types.specs.Maps.{Map, Entry}
use Rattle.iv_types.specs.declared.lock.ViewRow.{ViewRow}
use Rattle.table_store.specs.Stored.{before}
use Rattle.ghost_rows.specs.Numbers.{numbers_bytes, Fits128}
use Rattle.image_views.specs.declared.wrong.WrongRow.{WrongRow}

-- ---- numbers

-- the numbers of each encoded group, none where it has no row
abbrev pub ByGroup : Type 0
ByGroup = List ℕ → Option (List ℤ)

-- a column of a row, 0 where there is none
abbrev pub column_of : Option (List ℤ) → ℕ → ℤ
column_of row column = option_map_or (λ numbers. get_or numbers column (pos 0)) row (pos 0)

-- two rows have the same numbers: one with zeros alone is like none
abbrev pub AreAlike : Option (List ℤ) → Option (List ℤ) → Type 0
AreAlike one other = (column : ℕ) → column_of one column ≡ column_of other column

-- they differ in a column
abbrev pub Differ : Option (List ℤ) → Option (List ℤ) → Type 0
Differ one other = (column : ℕ) × (column_of one column ≢ column_of other column)

-- its count is not 0
abbrev pub IsCounted : Option (List ℤ) → Type 0
IsCounted row = (numbers : List ℤ) → row ≡ Some numbers → get_or numbers 0 (pos 0) ≢ pos 0

-- ---- their bytes

-- the bytes are those of a row with so many numbers, or there is neither
pub record IsBytesOf (width : ℕ) (bytes : Option (List ℕ)) (row : Option (List ℤ)) : Type 0 where
  pub bytes_are : bytes ≡ option_map numbers_bytes row
  pub fits : (numbers : List ℤ) → row ≡ Some numbers → Fits128 numbers
  pub long : (numbers : List ℤ) → row ≡ Some numbers → length numbers ≡ width

-- those of some row with so many numbers
abbrev pub AreBytes : Option (List ℕ) → Type 0
AreBytes bytes = (width : ℕ) × (row : Option (List ℤ)) × IsBytesOf width bytes row

-- of each group
abbrev pub AreBytesOf : ℕ → (List ℕ → Option (List ℕ)) → ByGroup → Type 0
AreBytesOf width bytes rows = (group : List ℕ) → IsBytesOf width (bytes group) (rows group)

-- ---- a list of rows

-- a row's group, and the bytes of its count and its sums
abbrev pub entry_of : ViewRow → Entry
entry_of row = (row.group, numbers_bytes (row.count ∷ row.sums))

-- the bytes of the row of a group
abbrev pub listed : List ViewRow → List ℕ → Option (List ℕ)
listed rows group = find (slice_cmp nat_cmp) group (map entry_of rows)

-- they stand in the order of their groups
abbrev pub AreInOrder : List ViewRow → Type 0
AreInOrder rows = T (is_sorted (slice_cmp nat_cmp) (map entry_of rows))

-- ---- what is told of some groups

-- a wrong row of the view: one of these groups, of which the rows differ as it says, and before which they are alike
pub record IsFirstIn (Of : List ℕ → Type 0) (view : ℕ) (stored fresh : ByGroup) (w : WrongRow) : Type 0 where
  pub view_is : w.view ≡ view
  pub of : Of w.group
  pub stored_is : w.stored ≡ stored w.group
  pub fresh_is : w.fresh ≡ fresh w.group
  pub differ : Differ (stored w.group) (fresh w.group)
  pub first : (group : List ℕ) → Of group → slice_cmp nat_cmp group w.group ≡ Less → AreAlike (stored group) (fresh group)

-- the first wrong row of these groups, or none where the rows of each are alike
abbrev pub IsToldOf : (List ℕ → Type 0) → ℕ → ByGroup → ByGroup → Option WrongRow → Type 0
IsToldOf Of view stored fresh None = (group : List ℕ) → Of group → AreAlike (stored group) (fresh group)
IsToldOf Of view stored fresh (Some w) = IsFirstIn Of view stored fresh w

-- any group
abbrev pub Any : List ℕ → Type 0
Any group = Unit {0}

-- it is behind this one, if there is one
abbrev pub is_behind : Option (List ℕ) → List ℕ → Bool
is_behind None group = true
is_behind (Some last) group = is_lt (slice_cmp nat_cmp last group)

-- it lies between two groups, each of which may be none
abbrev pub Between : Option (List ℕ) → Option (List ℕ) → List ℕ → Type 0
Between last next group = (is_behind last group ≡ true) × (before next group ≡ true)

-- it is behind one, if there is one, and another or before it
abbrev pub UpTo : Option (List ℕ) → List ℕ → List ℕ → Type 0
UpTo last most group = (is_behind last group ≡ true) × (is_behind (Some most) group ≡ false)

-- the entry of one of these groups whose row has a number other than 0, as no group of them before it has
pub record Stands (Of : List ℕ → Type 0) (m : Map) (stored : ByGroup) (e : Entry) : Type 0 where
  pub of : Of e.0
  pub there : get m e.0 ≡ Some e.1
  pub differ : Differ (stored e.0) None
  pub first : (group : List ℕ) → Of group → slice_cmp nat_cmp group e.0 ≡ Less → AreAlike (stored group) None

-- that entry, or none where no group of these has such a row
abbrev pub IsStandingIn : (List ℕ → Type 0) → Map → ByGroup → Option Entry → Type 0
IsStandingIn Of m stored None = (group : List ℕ) → Of group → AreAlike (stored group) None
IsStandingIn Of m stored (Some e) = Stands Of m stored e

-- the map has the stored rows, and the list the others, each of a count that is not 0
pub record AreBeside (width : ℕ) (m : Map) (rows : List ViewRow) (stored fresh : ByGroup) : Type 0 where
  pub stored_are : AreBytesOf width (get m) stored
  pub in_order : AreInOrder rows
  pub fresh_are : AreBytesOf width (listed rows) fresh
  pub counted : (group : List ℕ) → IsCounted (fresh group)
