-- No clause of `run` rests on this module: it serves contracts between crates.
--
-- What sorted maps hold of the rows of a database's tables.
use Rattle.std.specs.Prelude.{◌≡◌, ℕ, ◌+◌, Bool, true, List, [], ◌∷◌, length, sum_by, Option, Some, None, filter, ◌⊎◌}
use Rattle.std.specs.Option.{option_map, option_map_or, option_or, option_and_then}
use Rattle.std.specs.Ordering.{nat_cmp, is_lt}
use Rattle.std.specs.Cmp.Lexicographic.{slice_cmp}
use Rattle.std.specs.FinMap.{get}
use Rattle.iv_types.specs.declared.value.Value.{Value}
use Rattle.iv_types.specs.declared.value.Interval.{Interval}
use Rattle.iv_types.specs.declared.catalog.TableDef.{TableDef}
use Rattle.iv_types.specs.declared.catalog.IndexDef.{IndexDef}
use Rattle.iv_types.specs.declared.catalog.Definition.{Definition}
use Rattle.iv_types.specs.declared.catalog.Definition.TheVariants.{Table, Index}
use Rattle.iv_types.specs.Definitions.{Definitions, numbered}
use Rattle.iv_types.specs.Encoding.{kinds_of, FitAll, row_bytes, key_bytes, lies_in}
use Rattle.iv_types.specs.Maps.{Map, Entry}
use Rattle.iv_meaning.specs.Schema.{items_at}
use Rattle.iv_meaning.specs.View.{index_key}
use Rattle.iv_meaning.specs.Database.{Rows, key_of, set_row}

-- ---- the table of an object number

abbrev pub as_table : Option Definition → Option TableDef
as_table (Some (Table t)) = Some t
as_table _ = None

abbrev pub table_of : Definitions → ℕ → Option TableDef
table_of definitions number = as_table (numbered definitions number)

abbrev pub as_index : Option Definition → Option IndexDef
as_index (Some (Index i)) = Some i
as_index _ = None

-- the index of an object number that CREATE INDEX made
abbrev pub index_of : Definitions → ℕ → Option IndexDef
index_of definitions number = as_index (numbered definitions number)

-- ---- rows as they are stored

-- the bytes that a row's values at these places have in a key
abbrev pub key_at : TableDef → List ℕ → List Value → List ℕ
key_at t places row = key_bytes (items_at (kinds_of t) places) (items_at row places)

-- the bytes of a row, or none
abbrev pub stored : TableDef → Option (List Value) → Option (List ℕ)
stored t row = option_map (row_bytes (kinds_of t)) row

-- the row fits the table, and its encoded primary key is this one
abbrev pub StandsUnder : TableDef → List ℕ → List Value → Type 0
StandsUnder t key row = FitAll (kinds_of t) row × (key ≡ key_of t row)

-- The map holds the table's rows: the bytes of each under its key, and nothing else.
pub record HoldsTable (rows : Rows) (t : TableDef) (m : Map) : Type 0 where
  pub same : (key : List ℕ) → get m key ≡ stored t (get rows (t.number, key))
  pub fitting : (key : List ℕ) (row : List Value) → get rows (t.number, key) ≡ Some row → StandsUnder t key row

-- the entry of a row in an index that CREATE INDEX made
pub record IsOfRow (rows : Rows) (t : TableDef) (i : IndexDef) (at value : List ℕ) : Type 0 where
  pub key : List ℕ
  pub row : List Value
  pub is_there : get rows (t.number, key) ≡ Some row
  pub at_is : at ≡ index_key t i row
  pub empty : value ≡ []

-- The map of an index that CREATE INDEX made holds the rows of its table: for each an entry under the row's key there with nothing
-- behind it, and nothing else.
pub record HoldsIndex (rows : Rows) (t : TableDef) (i : IndexDef) (m : Map) : Type 0 where
  pub each : (key : List ℕ) (row : List Value) → get rows (t.number, key) ≡ Some row → get m (index_key t i row) ≡ Some []
  pub only : (at value : List ℕ) → get m at ≡ Some value → IsOfRow rows t i at value

-- an index of the table that CREATE INDEX made
pub record IsIndexOf (definitions : Definitions) (t : TableDef) (i : IndexDef) : Type 0 where
  pub is : index_of definitions i.number ≡ Some i
  pub of_table : i.table ≡ t.number

-- the maps hold the rows of a table in its primary index and in all others
pub record HoldsAll (definitions : Definitions) (rows : Rows) (maps : ℕ → Map) (t : TableDef) : Type 0 where
  pub primary : HoldsTable rows t (maps t.number)
  pub others : (i : IndexDef) → IsIndexOf definitions t i → HoldsIndex rows t i (maps i.number)

-- the maps hold the rows of all tables
abbrev pub Holds : Definitions → Rows → (ℕ → Map) → Type 0
Holds definitions rows maps = (t : TableDef) → table_of definitions t.number ≡ Some t → HoldsAll definitions rows maps t

-- each entry is a row of the table under its key
abbrev pub AreRows : TableDef → Map → Type 0
AreRows t m = (key value : List ℕ) → get m key ≡ Some value → (row : List Value) × StandsUnder t key row × (value ≡ row_bytes (kinds_of t) row)

-- the entry of an index is that of a row whose bytes stand under its primary key
pub record IsEntryOf (t : TableDef) (i : IndexDef) (m : Map) (row : List Value) (at : List ℕ) : Type 0 where
  pub fits : FitAll (kinds_of t) row
  pub at_is : at ≡ index_key t i row
  pub stands : get m (key_of t row) ≡ Some (row_bytes (kinds_of t) row)

-- each entry of the index is that of a row
abbrev pub AreEntries : TableDef → IndexDef → Map → Map → Type 0
AreEntries t i m n = (at value : List ℕ) → get n at ≡ Some value → (row : List Value) × IsEntryOf t i m row at

-- the rows that entries of the index stand for, in their order
abbrev pub Follow : TableDef → IndexDef → Map → List Entry → List (List Value) → Type 0
Follow t i m [] [] = Unit {0}
Follow t i m (e ∷ es) (row ∷ rows) = IsEntryOf t i m row e.0 × Follow t i m es rows
Follow t i m _ _ = ⊥

-- before the high end, if there is one
abbrev pub before : Option (List ℕ) → List ℕ → Bool
before high key = option_map_or (λ end. is_lt (slice_cmp nat_cmp key end)) high true

-- the entries whose keys lie in the interval
abbrev pub between : Interval → List Entry → List Entry
between interval es = filter (λ e. lies_in e.0 interval) es

-- the rows that the entries are, in their order
abbrev pub Decode : TableDef → List Entry → List (List Value) → Type 0
Decode t [] [] = Unit {0}
Decode t (e ∷ es) (row ∷ rows) = FitAll (kinds_of t) row × (e.1 ≡ row_bytes (kinds_of t) row) × Decode t es rows
Decode t _ _ = ⊥

-- ---- what rows count in a note of a reading

-- for each row, besides its encoded bytes
abbrev pub noted_row : ℕ
noted_row = 16

-- the rows that these entries are
abbrev pub noted_entries : List Entry → ℕ
noted_entries es = sum_by (λ e. length e.1 + noted_row) es

-- the rows of a table
abbrev pub noted_rows : TableDef → List (List Value) → ℕ
noted_rows t rows = sum_by (λ row. length (row_bytes (kinds_of t) row) + noted_row) rows

-- ---- by the number of a table

-- the number is that of a table, and this holds of it
abbrev pub IsTableAnd : Definitions → ℕ → (TableDef → Type 0) → Type 0
IsTableAnd definitions number P = (t : TableDef) × (table_of definitions number ≡ Some t) × P t

-- this holds of the table of that number
abbrev pub OfTable : Definitions → ℕ → (TableDef → Type 0) → Type 0
OfTable definitions number P = (t : TableDef) → table_of definitions number ≡ Some t → P t

-- the number is that of an index of a table, and this holds of them
abbrev pub IsIndexAnd : Definitions → ℕ → (TableDef → IndexDef → Type 0) → Type 0
IsIndexAnd definitions number P = (i : IndexDef) × (index_of definitions number ≡ Some i) × IsTableAnd definitions i.table (λ t. P t i)

-- The number is that of a table, whose entries are rows, or that of an index of one, whose entries are those of rows.
abbrev pub CanRead : Definitions → (ℕ → Map) → ℕ → Type 0
CanRead definitions maps number =
    IsTableAnd definitions number (λ t. AreRows t (maps number)) ⊎ IsIndexAnd definitions number (λ t i. AreEntries t i (maps t.number) (maps number))

-- the table of that number, or that of the index
abbrev pub listed_table : Definitions → ℕ → Option TableDef
listed_table definitions number = option_or (table_of definitions number) (option_and_then (λ i. table_of definitions i.table) (index_of definitions number))

-- the maps hold these rows of the table of that number, or of the table and the index
pub record HoldsRead (definitions : Definitions) (rows : Rows) (maps : ℕ → Map) (number : ℕ) : Type 0 where
  pub primary : (t : TableDef) → table_of definitions number ≡ Some t → HoldsTable rows t (maps number)
  pub secondary : (i : IndexDef) (t : TableDef) → index_of definitions number ≡ Some i → table_of definitions i.table ≡ Some t → HoldsTable rows t (maps t.number) × HoldsIndex rows t i (maps number)

-- what holds the rows before holds them after with this row or none under a key of a table
abbrev pub SetsRow : Definitions → ℕ → List ℕ → Option (List Value) → (ℕ → Map) → (ℕ → Map) → Type 0
SetsRow definitions table key row old new = (rows : Rows) → Holds definitions rows old → Holds definitions (set_row rows table key row) new
