-- No clause of `run` rests on this module: it serves contracts between crates.
--
-- Laws of databases that statements left, and of how a SELECT reads them.
use Rattle.std.specs.Prelude.{◌≡◌, ◌≢◌, ◌⊎◌, ℕ, true, List, [], ◌∷◌, ◌++◌, filter, Option, Some, None, Ok, IsSome}
use Rattle.std.specs.List.{All}
use Rattle.std.specs.Ordering.{nat_cmp, is_lt}
use Rattle.std.specs.Cmp.Lexicographic.{slice_cmp}
use Rattle.std.specs.FinMap.{get}
use Rattle.iv_types.specs.declared.value.Interval.{Interval}
use Rattle.iv_types.specs.declared.statement.Mode.{Mode}
use Rattle.iv_types.specs.declared.catalog.TableDef.{TableDef}
use Rattle.iv_types.specs.Encoding.{kinds_of, FitAll, lies_in}
use Rattle.iv_types.specs.Syntax.{StatementTree}
use Rattle.iv_meaning.specs.Schema.{Schema, Object, table, view, ViewTree, numbered}
use Rattle.iv_meaning.specs.Database.{Row, Rows, Database, rows_of, key_of, set_row}
use Rattle.iv_meaning.specs.Query.{BoundQuery}
use Rattle.iv_meaning.specs.View.{rows_between, read}
use Rattle.iv_meaning.specs.Statement.{create, select, bound_meaning, keep, defines}
use Rattle.iv_meaning.specs.Binding.{bind}
use Rattle.iv_meaning.specs.Reading.{Program, done, fetch, program, sources_for, replies_by, replies_of}
use Rattle.iv_meaning.specs.Sound.{IsSound}

-- ---- rows in the order of their keys

abbrev pub IsBefore : List ℕ → List ℕ → Type 0
IsBefore a b = is_lt (slice_cmp nat_cmp a b) ≡ true

-- each row's key is before that of the next
abbrev pub Rises : (Row → List ℕ) → List Row → Type 0
Rises key [] = Unit {0}
Rises key (row ∷ []) = Unit {0}
Rises key (row ∷ next ∷ rows) = IsBefore (key row) (key next) × Rises key (next ∷ rows)

-- of rows in the order of their keys those in an interval are those whose keys lie in it
abbrev pub BetweenLaw : Type 0
BetweenLaw = (key : Row → List ℕ) (interval : Interval) (rows : List Row) → Rises key rows → rows_between key interval rows ≡ filter (λ row. lies_in (key row) interval) rows

-- the rows of a table rise, and fit it
abbrev pub RowsLaw : Type 0
RowsLaw = (db : Database) → IsSound db → (n : ℕ) (t : TableDef) → numbered db.schema n ≡ Some (table t)
    → Rises (key_of t) (rows_of db.rows n) × All (FitAll (kinds_of t)) (rows_of db.rows n)

-- a row that is set under a key of its own stands between those with lesser and those with greater keys
abbrev pub SetRowLaw : Type 0
SetRowLaw = (db : Database) → IsSound db → (n : ℕ) (t : TableDef) → numbered db.schema n ≡ Some (table t)
    → (row : Row) (front back : List Row) → rows_of db.rows n ≡ front ++ back
    → All (λ r. IsBefore (key_of t r) (key_of t row)) front → All (λ r. IsBefore (key_of t row) (key_of t r)) back
    → (rows_of (set_row db.rows n (key_of t row) (Some row)) n ≡ front ++ row ∷ back)
    × (get db.rows (n, key_of t row) ≡ None)

-- a row is there exactly where one of its key is listed
abbrev pub ThereLaw : Type 0
ThereLaw = (db : Database) → IsSound db → (n : ℕ) (t : TableDef) → numbered db.schema n ≡ Some (table t)
    → (row : Row) (front : List Row) (r : Row) (back : List Row) → rows_of db.rows n ≡ front ++ r ∷ back → key_of t r ≡ key_of t row
    → get db.rows (n, key_of t row) ≡ Some r

-- the rows of another table stay
abbrev pub OtherRowsLaw : Type 0
OtherRowsLaw = (rows : Rows) (n m : ℕ) (key : List ℕ) (row : Option Row) → m ≢ n → rows_of (set_row rows n key row) m ≡ rows_of rows m

-- ---- sound databases

abbrev pub InsertedLaw : Type 0
InsertedLaw = (db : Database) → IsSound db → (n : ℕ) (t : TableDef) → numbered db.schema n ≡ Some (table t)
    → (row : Row) → FitAll (kinds_of t) row → IsSound (record db { rows = set_row db.rows n (key_of t row) (Some row) })

-- what a statement creates
abbrev pub CreatedLaw : Type 0
CreatedLaw = (db : Database) → IsSound db → (statement : StatementTree) (o : Object) → bind db.schema statement ≡ Ok (create o)
    → IsSound (keep (defines o) db)

-- ---- SELECT

-- a table or a view
abbrev pub IsRelation : Schema → ℕ → Type 0
IsRelation objects n = ((t : TableDef) × (numbered objects n ≡ Some (table t))) ⊎ ((v : ViewTree) × (numbered objects n ≡ Some (view v)))

abbrev pub RelationsLaw : Type 0
RelationsLaw = (db : Database) → IsSound db → (statement : StatementTree) (query : BoundQuery) → bind db.schema statement ≡ Ok (select query)
    → All (IsRelation db.schema) query.relations

-- A SELECT that is read by its plan, and is told of each interval the rows of one database, replies what it means on this
-- database. This is so whatever the sums of its views are: a number outside the HUGE range that the SELECT does not need is
-- in no interval of its plan, or in a row that a false term excludes.
abbrev pub ReadingLaw : Type 0
ReadingLaw = (db : Database) → IsSound db → (query : BoundQuery) → All (IsRelation db.schema) query.relations → (mode : Mode)
    → replies_by (read db) (program query (sources_for db.schema query mode)) ≡ replies_of (bound_meaning (select query) db)

-- each interval that it asks for is one of an object that there is
abbrev pub Asks : Schema → Program → Type 0
Asks objects (done replies) = Unit {0}
Asks objects (fetch i interval more) = IsSome (numbered objects i) × ((rows : List Row) → Asks objects (more rows))

-- a SELECT that is read by its plan asks for what there is, whatever it is told
abbrev pub AskingLaw : Type 0
AskingLaw = (db : Database) → IsSound db → (query : BoundQuery) (mode : Mode) → Asks db.schema (program query (sources_for db.schema query mode))
