-- What a database defines, without where it lies in memory.
use Rattle.std.specs.Prelude.{ℕ, ◌==◌, List, [], ◌∷◌, ◌++◌, map, filter, slice_get, Option, Some, None}
use Rattle.std.specs.List.{filter_map}
use Rattle.iv_types.specs.declared.value.Kind.{Kind}
use Rattle.iv_types.specs.declared.value.Kind.TheVariants.{Huge}
use Rattle.iv_types.specs.declared.expression.ColumnAt.{ColumnAt}
use Rattle.iv_types.specs.declared.catalog.Second.{Second}
use Rattle.iv_types.specs.declared.catalog.TableDef.{TableDef}
use Rattle.iv_types.specs.declared.catalog.IndexDef.{IndexDef}
use Rattle.iv_types.specs.Encoding.{kinds_of}
use Rattle.iv_types.specs.Naming.{of_number, of_name}
use Rattle.iv_types.specs.Syntax.{Tree}

pub record ViewTree : Type 0 where
  pub number : ℕ
  pub name : List ℕ
  -- of its columns: the group columns, the count and the sums
  pub names : List (List ℕ)
  pub first : ℕ
  pub second : Option Second
  pub condition : Option Tree
  pub group : List ColumnAt
  pub sums : List ColumnAt

pub data Object : Type 0 where
  table : TableDef → Object
  index : IndexDef → Object
  view : ViewTree → Object

-- in the order in which they were made
abbrev pub Schema : Type 0
Schema = List Object

abbrev pub name_of : Object → List ℕ
name_of (table t) = t.name
name_of (index i) = i.name
name_of (view v) = v.name

-- the object of a number
abbrev pub numbered : Schema → ℕ → Option Object
numbered objects n = of_number objects n

-- the object that has a name
abbrev pub named : Schema → List ℕ → Option Object
named objects name = of_name name_of objects name

abbrev pub as_table : Object → Option TableDef
as_table (table t) = Some t
as_table _ = None

abbrev pub as_index : Object → Option IndexDef
as_index (index i) = Some i
as_index _ = None

abbrev pub as_view : Object → Option ViewTree
as_view (view v) = Some v
as_view _ = None

-- the indexes of a table that CREATE INDEX made, in order
abbrev pub indexes_of : Schema → ℕ → List IndexDef
indexes_of objects number = filter (λ i. i.table == number) (filter_map as_index objects)

-- ---- columns

-- those of some places, counted from 0
abbrev pub items_at : {X : Type 0} → List X → List ℕ → List X
items_at items places = filter_map (slice_get items) places

abbrev pub column_names : TableDef → List (List ℕ)
column_names t = map (λ column. column.name) t.columns

-- the kinds of the primary key's columns
abbrev pub key_kinds : TableDef → List Kind
key_kinds t = items_at (kinds_of t) t.primary

-- the kinds of a table's columns, and none of another object
abbrev pub kinds_of_table : Option Object → List Kind
kinds_of_table (Some (table t)) = kinds_of t
kinds_of_table _ = []

-- the places of the columns of a table's primary key, and none of another object
abbrev pub primary_of : Option Object → List ℕ
primary_of (Some (table t)) = t.primary
primary_of _ = []

-- the tables that a view reads
abbrev pub sources_of : ViewTree → List ℕ
sources_of v = v.first ∷ elim v.second [ None ↦ [] | Some second ↦ second.table ∷ [] ]

abbrev pub kind_at : List (List Kind) → ColumnAt → Option Kind
kind_at sources place = elim (slice_get sources place.source) [ None ↦ None | Some kinds ↦ slice_get kinds place.column ]

-- the kinds of a view's group columns
abbrev pub group_kinds : Schema → ViewTree → List Kind
group_kinds objects v = filter_map (kind_at (map (λ n. kinds_of_table (numbered objects n)) (sources_of v))) v.group

-- the kinds of an object's columns: an index has none, and a view has those of its group and then HUGE
abbrev pub object_kinds : Schema → Object → List Kind
object_kinds objects (table t) = kinds_of t
object_kinds objects (index i) = []
object_kinds objects (view v) = group_kinds objects v ++ Huge ∷ map (λ sum. Huge) v.sums

abbrev pub object_columns : Object → List (List ℕ)
object_columns (table t) = column_names t
object_columns (index i) = []
object_columns (view v) = v.names
