-- What is known between two transactions: nothing of the rows of a view.
use Rattle.std.specs.Prelude.{ℕ, ◌==◌, List, [], map, Option}
use Rattle.std.specs.FinMap.{FinMap, entries, empty}
use Rattle.iv_types.specs.declared.value.Value.{Value}
use Rattle.iv_types.specs.declared.catalog.TableDef.{TableDef}
use Rattle.iv_types.specs.Encoding.{key_bytes}
use Rattle.table_laws.specs.Place.{place_cmp}
use Rattle.table_laws.specs.Table.{write, rows_where}
use Rattle.iv_meaning.specs.Schema.{Schema, items_at, key_kinds}

abbrev pub Row : Type 0
Row = List Value

-- the rows of all tables, each at its table's number and its encoded primary key
abbrev pub Rows : Type 0
Rows = FinMap place_cmp Row

pub record Database : Type 0 where
  -- the greatest commit number
  pub number : ℕ
  pub schema : Schema
  pub rows : Rows

abbrev pub created : Database
created = record { number = 0; schema = []; rows = empty }

-- the rows of a table, in the order of their keys
abbrev pub rows_of : Rows → ℕ → List Row
rows_of rows table = map (λ e. e.1) (rows_where (λ place row. place.0 == table) (entries rows))

-- the encoded primary key of a row
abbrev pub key_of : TableDef → Row → List ℕ
key_of table row = key_bytes (key_kinds table) (items_at row table.primary)

-- the rows, with this one or none under a key of a table
abbrev pub set_row : Rows → ℕ → List ℕ → Option Row → Rows
set_row rows table key row = write rows (table, key) row
