-- No clause of `run` rests on this module: it serves contracts between crates.
--
-- What is asked of views: the machine is proved for all that keep these laws.
use Rattle.std.specs.Prelude.{◌≡◌, ◌≢◌, ℕ, ℤ, pos, ◌+ℤ◌, List, [], ◌∷◌, ◌++◌, length, map, true, false, Some, None}
use Rattle.std.specs.FinMap.{get}
use Rattle.table_laws.specs.Place.{Place}
use Rattle.iv_types.specs.declared.catalog.TableDef.{TableDef}
use Rattle.iv_types.specs.declared.catalog.IndexDef.{IndexDef}
use Rattle.iv_types.specs.declared.catalog.Second.{Second}
use Rattle.iv_types.specs.Encoding.{kinds_of}
use Rattle.iv_types.specs.Syntax.{Tree}
use Rattle.iv_meaning.specs.Schema.{Schema, Object, table, index, view, ViewTree, numbered, items_at, key_kinds, sources_of, kinds_of_table}
use Rattle.iv_meaning.specs.Shape.{has_arithmetic}
use Rattle.iv_meaning.specs.Types.{family, is_truth}
use Rattle.iv_meaning.specs.Database.{Row, Rows}
use Rattle.iv_meaning.specs.Sound.{AreColumns, IsObject, IsRow}
use Rattle.txn_machine.specs.Deltas.{RowChange, rows_after, due}
use Rattle.txn_machine.specs.Entries.{AgreeAt, NeedsAt}
use Rattle.txn_machine.specs.Store.{Views}

-- the index by which the rows of the first table are found that join a row of the second: its columns begin with the joined ones
pub data BeginsWith (objects : Schema) (first : TableDef) (joined : List ℕ) (number : ℕ) : Type 0 where
  primary : (more : List ℕ) → number ≡ first.number → first.primary ≡ joined ++ more → BeginsWith objects first joined number
  secondary : (i : IndexDef) (more : List ℕ) → numbered objects number ≡ Some (index i) → i.table ≡ first.number → i.columns ≡ joined ++ more → BeginsWith objects first joined number

-- two tables are joined by the whole primary key of the second
pub record IsJoin (objects : Schema) (v : ViewTree) (second : Second) : Type 0 where
  pub first : TableDef
  pub other : TableDef
  pub first_is : numbered objects v.first ≡ Some (table first)
  pub other_is : numbered objects second.table ≡ Some (table other)
  pub differ : second.table ≢ v.first
  pub columns : AreColumns first second.joined
  pub kinds : items_at (kinds_of first) second.joined ≡ key_kinds other
  pub all : length second.joined ≡ length other.primary
  pub begins : BeginsWith objects first second.joined second.index

abbrev pub IsJoined : Schema → ViewTree → Type 0
IsJoined objects v = elim v.second [ None ↦ Unit {0} | Some second ↦ IsJoin objects v second ]

-- a view has a group column, and its condition, if it has one, is a truth of its tables' columns without arithmetic
pub record IsTyped (objects : Schema) (v : ViewTree) : Type 0 where
  pub grouped : v.group ≢ []
  pub condition : (e : Tree) → v.condition ≡ Some e → (is_truth (family (map (λ n. kinds_of_table (numbered objects n)) (sources_of v)) e) ≡ true) × (has_arithmetic e ≡ false)

-- the rows of a database as statements leave it: sound, each view of two tables joins them as it should, and each is typed
pub record AreSound (schema : Schema) (table_rows : Rows) : Type 0 where
  pub objects : (n : ℕ) (o : Object) → numbered schema n ≡ Some o → IsObject schema n o
  pub rows : (place : Place) (row : Row) → get table_rows place ≡ Some row → IsRow schema place row
  pub joins : (n : ℕ) (v : ViewTree) → numbered schema n ≡ Some (view v) → IsJoined schema v
  pub typed : (n : ℕ) (v : ViewTree) → numbered schema n ≡ Some (view v) → IsTyped schema v

-- a change of sound rows that leaves sound rows, and was told the row that was there
pub record IsRight (objects : Schema) (rows : Rows) (c : RowChange) : Type 0 where
  pub sound : AreSound objects rows
  pub after : AreSound objects (rows_after c rows)
  pub told : c.before ≡ get rows c.key

-- value objects rows place column: a column of the row of a view and a group, evaluated afresh
pub record ViewLaws (views : Views) (value : Schema → Rows → Place → ℕ → ℤ) : Type 0 where
  -- what a change owes is what it changes
  pub sum : (objects : Schema) (rows : Rows) (c : RowChange) → IsRight objects rows c → (place : Place) (column : ℕ)
      → value objects (rows_after c rows) place column ≡ value objects rows place column +ℤ due place column (views.owed objects rows c)
  -- a group of no combinations adds up to zeros
  pub none : (objects : Schema) (rows : Rows) (place : Place) → value objects rows place 0 ≡ pos 0 → (column : ℕ) → value objects rows place column ≡ pos 0
  -- what a change owes depends on what it looks up alone
  pub local : (objects : Schema) (one other : Rows) (c : RowChange) → IsRight objects one c → IsRight objects other c
      → ((number : ℕ) (key : List ℕ) → NeedsAt objects c number key → AgreeAt objects number key one other)
      → views.owed objects one c ≡ views.owed objects other c
  -- a new view begins with what its combinations add, and the views that were there stay
  pub made : (objects : Schema) (rows : Rows) (o : Object) → AreSound objects rows → AreSound (objects ++ o ∷ []) rows → (place : Place) (column : ℕ)
      → value (objects ++ o ∷ []) rows place column ≡ value objects rows place column +ℤ due place column (views.made_of (objects ++ o ∷ []) rows o)
