-- No clause of `run` rests on this module: it serves contracts between crates.
--
-- What laws ask of a database. Each object has its number. The columns of a table's key, of an index and of a view's groups
-- are there, and a view reads tables. Each row fits its table and stands under its key.
use Rattle.std.specs.Prelude.{◌≡◌, ◌<◌, ℕ, List, length, map, Some}
use Rattle.std.specs.List.{All}
use Rattle.std.specs.FinMap.{get}
use Rattle.iv_types.specs.declared.catalog.TableDef.{TableDef}
use Rattle.iv_types.specs.declared.catalog.IndexDef.{IndexDef}
use Rattle.iv_types.specs.Encoding.{kinds_of, FitAll}
use Rattle.table_laws.specs.Place.{Place}
use Rattle.iv_meaning.specs.Schema.{Schema, Object, table, index, view, ViewTree, numbered, sources_of, kinds_of_table, kind_at}
use Rattle.iv_meaning.specs.Database.{Row, Database, key_of}

-- places of columns of a table
abbrev pub AreColumns : TableDef → List ℕ → Type 0
AreColumns t places = All (λ p. p < length t.columns) places

pub record IsIndex (objects : Schema) (i : IndexDef) : Type 0 where
  pub of : TableDef
  pub table_is : numbered objects i.table ≡ Some (table of)
  pub columns : AreColumns of i.columns

abbrev pub IsTable : Schema → ℕ → Type 0
IsTable objects n = (t : TableDef) × (numbered objects n ≡ Some (table t))

pub record IsView (objects : Schema) (v : ViewTree) : Type 0 where
  -- it reads tables
  pub tables : All (IsTable objects) (sources_of v)
  -- it is grouped by columns of theirs
  pub group : All (λ place. (kind : _) × (kind_at (map (λ n. kinds_of_table (numbered objects n)) (sources_of v)) place ≡ Some kind)) v.group

-- an object that has this number
abbrev pub IsObject : Schema → ℕ → Object → Type 0
IsObject objects n (table t) = (t.number ≡ n) × AreColumns t t.primary
IsObject objects n (index i) = (i.number ≡ n) × IsIndex objects i
IsObject objects n (view v) = (v.number ≡ n) × IsView objects v

-- a row under its key in its table
pub record IsRow (objects : Schema) (place : Place) (row : Row) : Type 0 where
  pub of : TableDef
  pub table_is : numbered objects place.0 ≡ Some (table of)
  pub key : place.1 ≡ key_of of row
  pub fits : FitAll (kinds_of of) row

pub record IsSound (db : Database) : Type 0 where
  pub objects : (n : ℕ) (o : Object) → numbered db.schema n ≡ Some o → IsObject db.schema n o
  pub rows : (place : Place) (row : Row) → get db.rows place ≡ Some row → IsRow db.schema place row
