-- Pass 1: a statement whose names are places and objects, or the refusal of the first name, in the order of the text, that
-- stands for nothing or is taken.
use Rattle.std.specs.Prelude.{ℕ, ◌+◌, ◌==◌, ◌&&◌, Bool, true, false, List, [], ◌∷◌, ◌++◌, map, filter, Option, Some, None, Result, Ok, Err, if◌then◌else◌, is_some}
use Rattle.std.specs.List.{filter_map, list_any}
use Rattle.std.specs.Option.{unwrap_or, option_map_or}
use Rattle.std.specs.Str.{bytes_eq}
use Rattle.iv_types.specs.declared.expression.Ref.{Ref}
use Rattle.iv_types.specs.declared.expression.ColumnAt.{ColumnAt}
use Rattle.iv_types.specs.declared.statement.ColumnDef.{ColumnDef}
use Rattle.iv_types.specs.declared.statement.Order.{Order}
use Rattle.iv_types.specs.declared.statement.Relation.{Relation}
use Rattle.iv_types.specs.declared.refusal.Refusal.{Refusal}
use Rattle.iv_types.specs.declared.refusal.Refusal.TheVariants.{UnknownName, NameTaken}
use Rattle.iv_types.specs.Syntax as s
use Rattle.iv_types.specs.Syntax.{Tree, ItemTree, QueryTree, JoinTree, SetTree, StatementTree}
use Rattle.iv_meaning.specs.Schema as schema
use Rattle.iv_meaning.specs.Schema.{Schema, Object, object_columns}
use Rattle.iv_meaning.specs.Query.{BoundItem, count, sum, plain}
use Rattle.iv_meaning.specs.Statement.{BoundSet}

-- ---- one step after another, up to the first refusal

abbrev pub and_then : {A B : Type 0} → Result A Refusal → (A → Result B Refusal) → Result B Refusal
and_then (Ok a) more = more a
and_then (Err r) more = Err r

abbrev pub each : {X A : Type 0} → (X → Result A Refusal) → List X → Result (List A) Refusal
each f [] = Ok []
each f (x ∷ xs) = and_then (f x) (λ a. and_then (each f xs) (λ more. Ok (a ∷ more)))

abbrev pub perhaps : {X A : Type 0} → (X → Result A Refusal) → Option X → Result (Option A) Refusal
perhaps f None = Ok None
perhaps f (Some x) = and_then (f x) (λ a. Ok (Some a))

-- ---- what a statement sees

pub record Column : Type 0 where
  -- what the statement calls its relation
  pub relation : List ℕ
  pub name : List ℕ
  pub place : ColumnAt

pub record Scope : Type 0 where
  -- what the statement calls its relations, in FROM order
  pub relations : List (List ℕ)
  -- all their columns, in order
  pub columns : List Column

abbrev pub columns_from : List ℕ → ℕ → ℕ → List (List ℕ) → List Column
columns_from relation source column [] = []
columns_from relation source column (name ∷ names) =
    record { relation = relation; name = name; place = record { source = source; column = column } } ∷ columns_from relation source (column + 1) names

abbrev pub called : Relation → List ℕ
called relation = unwrap_or relation.alias relation.name

-- what is not there has no columns
abbrev pub columns_seen : Schema → ℕ → List Relation → List Column
columns_seen objects source [] = []
columns_seen objects source (r ∷ rs) =
    columns_from (called r) source 0 (option_map_or object_columns (schema.named objects r.name) []) ++ columns_seen objects (source + 1) rs

abbrev pub scope_from : Schema → QueryTree → Scope
scope_from objects query =
    let relations : List Relation = query.first ∷ map (λ join. join.relation) query.joins in
    record { relations = map called relations; columns = columns_seen objects 0 relations }

-- one relation of these columns
abbrev pub scope_of_one : List ℕ → List (List ℕ) → Scope
scope_of_one name columns = record { relations = name ∷ []; columns = columns_from name 0 0 columns }

-- ---- columns

abbrev pub how_many : {X : Type 0} → (X → Bool) → List X → ℕ
how_many test [] = 0
how_many test (x ∷ xs) = if test x then how_many test xs + 1 else how_many test xs

abbrev pub only : List ColumnAt → List ℕ → Result ColumnAt Refusal
only (place ∷ []) name = Ok place
only _ name = Err (UnknownName name)

abbrev pub places_where : (Column → Bool) → Scope → List ColumnAt
places_where test scope = map (λ c. c.place) (filter test scope.columns)

-- A column without a qualifier stands for the one relation that has it. A qualifier stands for the one relation that is
-- called so.
abbrev pub column_by : Scope → Option (List ℕ) → List ℕ → Result ColumnAt Refusal
column_by scope None name = only (places_where (λ c. bytes_eq name c.name) scope) name
column_by scope (Some qualifier) name =
    if how_many (bytes_eq qualifier) scope.relations == 1 then only (places_where (λ c. bytes_eq qualifier c.relation && bytes_eq name c.name) scope) name
    else Err (UnknownName qualifier)

abbrev pub column_of : Scope → Ref → Result ColumnAt Refusal
column_of scope ref = column_by scope ref.qualifier ref.name

-- the place of a column in its relation
abbrev pub place_of : Scope → List ℕ → Result ℕ Refusal
place_of scope name = and_then (column_by scope None name) (λ place. Ok place.column)

abbrev pub expression : Scope → Tree → Result Tree Refusal
expression scope (s.number n) = Ok (s.number n)
expression scope (s.word w) = Ok (s.word w)
expression scope (s.named ref) = and_then (column_of scope ref) (λ place. Ok (s.at place))
expression scope (s.at place) = Ok (s.at place)
expression scope (s.not e) = and_then (expression scope e) (λ x. Ok (s.not x))
expression scope (s.minus e) = and_then (expression scope e) (λ x. Ok (s.minus x))
expression scope (s.pair op a b) = and_then (expression scope a) (λ x. and_then (expression scope b) (λ y. Ok (s.pair op x y)))

-- ---- objects and new names

abbrev pub known : Schema → List ℕ → Result Object Refusal
known objects name = elim (schema.named objects name) [ None ↦ Err (UnknownName name) | Some object ↦ Ok object ]

-- the name of a new object
abbrev pub new_object : Schema → List ℕ → Result (List ℕ) Refusal
new_object objects name = if is_some (schema.named objects name) then Err (NameTaken name) else Ok name

abbrev pub is_among : List (List ℕ) → List ℕ → Bool
is_among names name = list_any (bytes_eq name) names

-- new names that stand behind some others
abbrev pub fresh : List (List ℕ) → List (List ℕ) → Result (Unit {0}) Refusal
fresh others [] = Ok tt
fresh others (name ∷ names) = if is_among others name then Err (NameTaken name) else fresh (name ∷ others) names

-- ---- queries

-- an item and the name that it has, if it has one
pub record NamedItem : Type 0 where
  pub item : BoundItem
  pub name : Option (List ℕ)

-- an item without AS has the name of its column, if it is one
abbrev pub plain_name : Tree → Option (List ℕ)
plain_name (s.named ref) = Some ref.name
plain_name e = None

abbrev pub item_name : Tree → Option (List ℕ) → Option (List ℕ)
item_name e None = plain_name e
item_name e (Some name) = Some name

-- a relation behind JOIN and its condition
pub record Joined : Type 0 where
  pub object : Object
  pub on : Tree

pub record ResolvedQuery : Type 0 where
  -- `*` stands for all columns of FROM
  pub items : List NamedItem
  pub first : Object
  pub joins : List Joined
  pub condition : Option Tree
  -- empty where there is no GROUP BY
  pub group : List ColumnAt

abbrev pub item_at : Column → NamedItem
item_at c = record { item = plain (s.at c.place); name = Some c.name }

abbrev pub items_for : Scope → ItemTree → Result (List NamedItem) Refusal
items_for scope s.all = Ok (map item_at scope.columns)
items_for scope (s.count name) = Ok (record { item = count; name = name } ∷ [])
items_for scope (s.sum ref name) = and_then (column_of scope ref) (λ place. Ok (record { item = sum place; name = name } ∷ []))
items_for scope (s.plain e name) = and_then (expression scope e) (λ x. Ok (record { item = plain x; name = item_name e name } ∷ []))

abbrev pub names_in : List NamedItem → List (List ℕ)
names_in items = filter_map (λ i. i.name) items

-- the items of a view have names of their own
abbrev pub items_resolved : Bool → Scope → List (List ℕ) → List ItemTree → Result (List NamedItem) Refusal
items_resolved view scope others [] = Ok []
items_resolved view scope others (item ∷ items) =
    and_then (items_for scope item) (λ some.
    and_then (if view then fresh others (names_in some) else Ok tt) (λ new.
    and_then (items_resolved view scope (names_in some ++ others) items) (λ more. Ok (some ++ more))))

-- a relation stands for something, and is called by a name of its own
abbrev pub source : Schema → List (List ℕ) → Relation → Result Object Refusal
source objects others relation = and_then (known objects relation.name) (λ object. and_then (fresh others (called relation ∷ [])) (λ new. Ok object))

abbrev pub joins_resolved : Schema → Scope → List (List ℕ) → List JoinTree → Result (List Joined) Refusal
joins_resolved objects scope others [] = Ok []
joins_resolved objects scope others (join ∷ joins) =
    and_then (source objects others join.relation) (λ object.
    and_then (expression scope join.on) (λ on.
    and_then (joins_resolved objects scope (called join.relation ∷ others) joins) (λ more. Ok (record { object = object; on = on } ∷ more))))

abbrev pub query_resolved : Bool → Schema → QueryTree → Result ResolvedQuery Refusal
query_resolved view objects query =
    let scope : Scope = scope_from objects query in
    and_then (items_resolved view scope [] query.items) (λ items.
    and_then (source objects [] query.first) (λ first.
    and_then (joins_resolved objects scope (called query.first ∷ []) query.joins) (λ joins.
    and_then (perhaps (expression scope) query.condition) (λ condition.
    and_then (each (column_of scope) query.group) (λ group.
    Ok (record { items = items; first = first; joins = joins; condition = condition; group = group }))))))

-- ---- statements

pub data Resolved : Type 0 where
  table : (name : List ℕ) (columns : List ColumnDef) (primary : List ℕ) → Resolved
  index : (name : List ℕ) (target : Object) (columns : List ℕ) → Resolved
  view : (name : List ℕ) (query : ResolvedQuery) → Resolved
  insert : (target : Object) (tuples : List (List Tree)) → Resolved
  update : (target : Object) (sets : List BoundSet) (condition : Option Tree) → Resolved
  delete : (target : Object) (condition : Option Tree) → Resolved
  -- ORDER BY is looked at by its shape rule
  select : (query : ResolvedQuery) (order : List Order) → Resolved
  control : Resolved

abbrev pub assignment : Scope → SetTree → Result BoundSet Refusal
assignment scope a = and_then (place_of scope a.name) (λ column. and_then (expression scope a.value) (λ value. Ok (record { column = column; value = value })))

abbrev pub Changes : Type 0
Changes = List BoundSet × Option Tree

-- what an UPDATE assigns, and where
abbrev pub changes : Scope → List SetTree → Option Tree → Result Changes Refusal
changes scope ss condition = and_then (each (assignment scope) ss) (λ sets. and_then (perhaps (expression scope) condition) (λ where_. Ok (sets, where_)))

abbrev pub resolved : Schema → StatementTree → Result Resolved Refusal
resolved objects (s.create_table name columns primary) =
    let names : List (List ℕ) = map (λ c. c.name) columns in
    and_then (new_object objects name) (λ new.
    and_then (fresh [] names) (λ distinct.
    and_then (each (place_of (scope_of_one name names)) primary) (λ places. Ok (table name columns places))))
resolved objects (s.create_index name target columns) =
    and_then (new_object objects name) (λ new.
    and_then (known objects target) (λ object.
    and_then (each (place_of (scope_of_one target (object_columns object))) columns) (λ places. Ok (index name object places))))
resolved objects (s.create_view name query) = and_then (new_object objects name) (λ new. and_then (query_resolved true objects query) (λ q. Ok (view name q)))
resolved objects (s.insert target tuples) =
    and_then (known objects target) (λ object.
    and_then (each (each (expression (record { relations = []; columns = [] }))) tuples) (λ values. Ok (insert object values)))
resolved objects (s.update target ss condition) = and_then (known objects target) (λ object.
    let scope : Scope = scope_of_one target (object_columns object) in
    and_then (each (assignment scope) ss) (λ sets.
    and_then (perhaps (expression scope) condition) (λ where_. Ok (update object sets where_))))
resolved objects (s.delete target condition) = and_then (known objects target) (λ object.
    and_then (perhaps (expression (scope_of_one target (object_columns object))) condition) (λ where_. Ok (delete object where_)))
resolved objects (s.select query order) = and_then (query_resolved false objects query) (λ q. Ok (select q order))
resolved objects _ = Ok control
