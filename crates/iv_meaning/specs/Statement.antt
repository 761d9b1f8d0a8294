-- What a bound statement means on a database: it is refused, or it lists rows, counts rows and keeps changes.
use Rattle.std.specs.Prelude.{ℕ, ◌+◌, ◌==◌, not, Bool, List, [], ◌∷◌, ◌++◌, map, filter, length, is_some, Option, Some, None, if◌then◌else◌}
use Rattle.std.specs.Option.{option_to_list, option_map, option_and_then}
use Rattle.std.specs.FinMap.{get}
use Rattle.std.specs.Ordering.{eq_by_cmp}
use Rattle.iv_types.specs.declared.value.Kind.{Kind}
use Rattle.iv_types.specs.declared.value.Value.{Value}
use Rattle.iv_types.specs.declared.catalog.TableDef.{TableDef}
use Rattle.iv_types.specs.declared.refusal.Refusal.{Refusal}
use Rattle.iv_types.specs.declared.refusal.Refusal.TheVariants.{DuplicateKey, NumberRange}
use Rattle.iv_types.specs.Syntax.{Tree}
use Rattle.iv_types.specs.Encoding.{row_cmp, fits, kinds_of}
use Rattle.table_laws.specs.Place.{Place}
use Rattle.table_laws.specs.Table.{Change}
use Rattle.iv_meaning.specs.Schema.{Object, view, numbered, as_table}
use Rattle.iv_meaning.specs.Database.{Row, Rows, Database, rows_of, key_of, set_row}
use Rattle.iv_meaning.specs.Values.{Outcome, meaning, value_of}
use Rattle.iv_meaning.specs.Query.{BoundQuery, chosen, conjunction}
use Rattle.iv_meaning.specs.Grouping.{all_of}
use Rattle.iv_meaning.specs.View.{whole_view, select_answer}

pub record BoundSet : Type 0 where
  pub column : ℕ
  pub value : Tree

pub data BoundTree : Type 0 where
  -- a CREATE statement, and what it makes
  create : Object → BoundTree
  insert : (table : ℕ) (tuples : List (List Tree)) → BoundTree
  update : (table : ℕ) (sets : List BoundSet) (condition : Option Tree) → BoundTree
  delete : (table : ℕ) (condition : Option Tree) → BoundTree
  select : BoundQuery → BoundTree
  -- BEGIN, COMMIT, ROLLBACK, SAVEPOINT
  control : BoundTree

-- what a transaction keeps
pub data Kept : Type 0 where
  sets : Change Place Row → Kept
  defines : Object → Kept

pub data Meaning : Type 0 where
  Refused : Refusal → Meaning
  -- the kept changes, of which the first was made first
  Accepted : (listed : List Row) (count : ℕ) (kept : List Kept) → Meaning

-- ---- stored values

abbrev pub if_fitting : Kind → Value → Option Value
if_fitting kind v = if fits kind v then Some v else None

-- what an expression gives, to be stored in a column of this kind
abbrev pub stored : Kind → Outcome → Option Value
stored kind o = option_and_then (if_fitting kind) (value_of o)

-- ---- INSERT

abbrev pub tuple_values : List Kind → List Tree → List (Option Value)
tuple_values [] es = []
tuple_values kinds [] = []
tuple_values (kind ∷ kinds) (e ∷ es) = stored kind (meaning e []) ∷ tuple_values kinds es

-- the rows of the tuples, unless one of them is refused
abbrev pub tuple_rows : TableDef → List (List Tree) → Option (List Row)
tuple_rows t tuples = all_of (map (λ tuple. all_of (tuple_values (kinds_of t) tuple)) tuples)

-- the rows go in one after another, unless a key is there
abbrev pub insertions : TableDef → List Row → Rows → Option (List (Change Place Row))
insertions t [] rows = Some []
insertions t (row ∷ more) rows =
    if is_some (get rows (t.number, key_of t row)) then None
    else option_map (λ changes. record { key = (t.number, key_of t row); before = None; after = Some row } ∷ changes) (insertions t more (set_row rows t.number (key_of t row) (Some row)))

abbrev pub inserted : Option (List (Change Place Row)) → ℕ → Meaning
inserted None count = Refused DuplicateKey
inserted (Some changes) count = Accepted [] count (map sets changes)

abbrev pub insert_meaning : TableDef → Option (List Row) → Rows → Meaning
insert_meaning t None rows = Refused NumberRange
insert_meaning t (Some more) rows = inserted (insertions t more rows) (length more)

-- ---- UPDATE and DELETE

-- the rows of a table for which the condition, if there is one, is true
abbrev pub matching : TableDef → Option Tree → Rows → Option (List Row)
matching t condition rows = chosen (λ row. conjunction (option_to_list condition) (row ∷ [])) (rows_of rows t.number)

-- the value of a column after the assignments, by the row's old values
abbrev pub column_after : List BoundSet → Row → Kind → ℕ → Value → Option Value
column_after [] row kind column old = Some old
column_after (s ∷ ss) row kind column old = if s.column == column then stored kind (meaning s.value (row ∷ [])) else column_after ss row kind column old

abbrev pub columns_after : List BoundSet → Row → List Kind → ℕ → List Value → List (Option Value)
columns_after ss row [] column values = []
columns_after ss row kinds column [] = []
columns_after ss row (kind ∷ kinds) column (old ∷ values) = column_after ss row kind column old ∷ columns_after ss row kinds (column + 1) values

abbrev pub row_after : TableDef → List BoundSet → Row → Option Row
row_after t ss row = all_of (columns_after ss row (kinds_of t) 0 row)

abbrev pub change_to : TableDef → Row → Option Row → Change Place Row
change_to t row after = record { key = (t.number, key_of t row); before = Some row; after = after }

-- each of some with the other at its place
abbrev pub pairs : List Row → List Row → List (Row × Row)
pairs [] rows = []
pairs rows [] = []
pairs (a ∷ as_) (b ∷ bs) = (a, b) ∷ pairs as_ bs

-- a row of which nothing changes is counted and not set
abbrev pub is_changed : Row × Row → Bool
is_changed p = not (eq_by_cmp row_cmp p.0 p.1)

abbrev pub updated : TableDef → List Row → Option (List Row) → Meaning
updated t rows None = Refused NumberRange
updated t rows (Some after) = Accepted [] (length rows) (map (λ p. sets (change_to t p.0 (Some p.1))) (filter is_changed (pairs rows after)))

abbrev pub update_meaning : TableDef → List BoundSet → Option (List Row) → Meaning
update_meaning t ss None = Refused NumberRange
update_meaning t ss (Some rows) = updated t rows (all_of (map (row_after t ss) rows))

abbrev pub delete_meaning : TableDef → Option (List Row) → Meaning
delete_meaning t None = Refused NumberRange
delete_meaning t (Some rows) = Accepted [] (length rows) (map (λ row. sets (change_to t row None)) rows)

-- ---- SELECT and CREATE

abbrev pub select_meaning : Option (List Row) → Meaning
select_meaning None = Refused NumberRange
select_meaning (Some rows) = Accepted rows (length rows) []

-- a view is refused where a sum of it leaves the HUGE range, which is where its query is
abbrev pub create_meaning : Object → Database → Meaning
create_meaning (view v) db = if is_some (whole_view db.schema db.rows v) then Accepted [] 0 (defines (view v) ∷ []) else Refused NumberRange
create_meaning object db = Accepted [] 0 (defines object ∷ [])

-- ---- all statements

-- of a statement on a table; a bound one names a table
abbrev pub on_table : (TableDef → Meaning) → Option Object → Meaning
on_table f object = elim (option_and_then as_table object) [
  | None ↦ Accepted [] 0 []
  | Some t ↦ f t
]

abbrev pub bound_meaning : BoundTree → Database → Meaning
bound_meaning (create object) db = create_meaning object db
bound_meaning (insert number tuples) db = on_table (λ t. insert_meaning t (tuple_rows t tuples) db.rows) (numbered db.schema number)
bound_meaning (update number ss condition) db = on_table (λ t. update_meaning t ss (matching t condition db.rows)) (numbered db.schema number)
bound_meaning (delete number condition) db = on_table (λ t. delete_meaning t (matching t condition db.rows)) (numbered db.schema number)
bound_meaning (select query) db = select_meaning (select_answer query db)
bound_meaning control db = Accepted [] 0 []

-- ---- the database after kept changes

abbrev pub keep : Kept → Database → Database
keep (sets change) db = record db { rows = set_row db.rows change.key.0 change.key.1 change.after }
keep (defines object) db = record db { schema = db.schema ++ object ∷ [] }

abbrev pub keep_all : List Kept → Database → Database
keep_all [] db = db
keep_all (k ∷ ks) db = keep_all ks (keep k db)
