-- Passes 3 to 5 over a resolved statement: its shape rules, its limits, and the index that a join view needs, each as
-- whether it fails and its refusal.
use Rattle.std.specs.Prelude.{ℕ, ℤ, pos, negsuc, ◌-◌, ◌+◌, ◌==◌, ◌&&◌, ◌||◌, nat_lt, not, is_some, is_none, Bool, true, false, List, [], ◌∷◌, ◌++◌, map, length, int_le, Option, Some, None, if◌then◌else◌}
use Rattle.std.specs.List.{flat_map, filter_map, list_any, list_all}
use Rattle.std.specs.Option.{option_map, option_map_or}
use Rattle.iv_types.specs.declared.value.Kind.{Kind}
use Rattle.iv_types.specs.declared.refusal.Refusal.{Refusal}
use Rattle.iv_types.specs.declared.refusal.Refusal.TheVariants as refusal
use Rattle.iv_types.specs.declared.refusal.Refusal.TheVariants.{WrongShape, NeedsIndex}
use Rattle.iv_types.specs.declared.limit.Limit.{Limit}
use Rattle.iv_types.specs.declared.limit.ShapeRule.{ShapeRule}
use Rattle.iv_types.specs.declared.statement.Order.{Order}
use Rattle.iv_types.specs.declared.statement.OrderKey.{OrderKey}
use Rattle.iv_types.specs.declared.statement.OrderKey.TheVariants.{Place, Name}
use Rattle.iv_types.specs.declared.catalog.TableDef.{TableDef}
use Rattle.iv_types.specs.declared.catalog.IndexDef.{IndexDef}
use Rattle.iv_types.specs.Syntax.{Tree}
use Rattle.iv_types.specs.declared.limit.Limit.TheVariants.{Columns, DefinitionBytes, Indexes, KeyWidth, Readers, RowWidth, Sums, Tables, Views}
use Rattle.iv_types.specs.declared.limit.ShapeRule.TheVariants.{Arithmetic, ColumnTwice, KeySet, NoGroup, NoItem, NoTable, NoViewList, NotManyToOne, OtherItem, SetTwice, TupleLength, ViewOfView}
use Rattle.iv_types.specs.Limits.{most_of}
use Rattle.iv_meaning.specs.Schema.{Schema, Object, as_table, as_index, as_view, primary_of, items_at, kind_at, object_columns, object_kinds, indexes_of}
use Rattle.iv_meaning.specs.Query.{BoundOrder}
use Rattle.iv_meaning.specs.Shape.{joins_by, same_place, repeats, is_aggregate, is_grouped, joins_tables, is_view_list, has_arithmetic, is_named, is_empty, terms, key_width, row_width, width, readers, object_number, sums_in}
use Rattle.iv_meaning.specs.Resolving.{how_many, NamedItem, ResolvedQuery, Joined, Resolved, table, index, view, insert, update, delete, select, control}
use Rattle.iv_meaning.specs.Types.{sources_of, kinds_seen}

-- whether it fails, and how it is refused then
abbrev pub Test : Type 0
Test = Bool × Refusal

abbrev pub rule : ShapeRule → Bool → Test
rule broken fails = (fails, WrongShape broken)

abbrev pub at_most : Limit → ℕ → Test
at_most limit n = (nat_lt (most_of limit) n, refusal.Limit limit)

-- ---- shape

abbrev pub is_table : Object → Bool
is_table object = is_some (as_table object)

-- one relation, or two tables of which the second is joined by its whole primary key
abbrev pub is_many_to_one : Object → List Joined → Bool
is_many_to_one first [] = true
is_many_to_one first (j ∷ []) = joins_tables (as_table first) (as_table j.object) j.on
is_many_to_one first joins = false

abbrev pub same_number : ℕ → ℕ → Bool
same_number a b = a == b

abbrev pub query_rules : ResolvedQuery → List Test
query_rules query =
    let grouped : Bool = not (is_empty query.group) in
    rule ColumnTwice (repeats same_place query.group)
    ∷ rule NoTable (list_any (λ o. is_some (as_index o)) (sources_of query))
    ∷ rule NoGroup (not grouped && list_any (λ i. is_aggregate i.item) query.items)
    ∷ rule OtherItem (grouped && not (list_all (λ i. is_aggregate i.item || is_grouped query.group i.item) query.items))
    ∷ rule NotManyToOne (grouped && not (is_many_to_one query.first query.joins))
    ∷ []

abbrev pub view_rules : ResolvedQuery → List Test
view_rules query =
    rule NoViewList (is_empty query.group || not (is_view_list query.group query.items))
    ∷ rule Arithmetic (option_map_or has_arithmetic query.condition false)
    ∷ rule ViewOfView (list_any (λ o. is_some (as_view o)) (sources_of query))
    ∷ []

-- the place of the one item of a name
abbrev pub item_place : List ℕ → ℕ → List NamedItem → ℕ
item_place name n [] = n
item_place name n (i ∷ is) = if is_named name i then n else item_place name (n + 1) is

abbrev pub before_number : ℤ → ℕ
before_number (pos n) = n - 1
before_number (negsuc n) = 0

-- the item that an ORDER BY names: by its number from 1, or by a name that it alone has
abbrev pub item_named : List NamedItem → OrderKey → Option ℕ
item_named items (Place n) = if int_le (pos 1) n && int_le n (pos (length items)) then Some (before_number n) else None
item_named items (Name name) = if how_many (is_named name) items == 1 then Some (item_place name 0 items) else None

abbrev pub ordered : List NamedItem → Order → Option BoundOrder
ordered items o = option_map (λ place. record { item = place; descending = o.descending }) (item_named items o.by)

-- ---- the join of a view

-- the column of the first table that is held equal to a column of the second
abbrev pub joined_with : List Tree → ℕ → List ℕ
joined_with [] place = []
joined_with (e ∷ es) place = elim (joins_by e) [ None ↦ joined_with es place | Some p ↦ if p.1 == place then p.0 ∷ [] else joined_with es place ]

-- the first table's columns that are equal to the second's primary key, in the key's order
abbrev pub join_columns : List Tree → TableDef → List ℕ
join_columns es second = flat_map (joined_with es) second.primary

abbrev pub begins_with : List ℕ → List ℕ → Bool
begins_with [] places = true
begins_with (p ∷ ps) [] = false
begins_with (p ∷ ps) (q ∷ qs) = (p == q) && begins_with ps qs

-- the first index that begins with these columns
abbrev pub first_index : List ℕ → List IndexDef → Option ℕ
first_index columns [] = None
first_index columns (i ∷ is) = if begins_with columns i.columns then Some i.number else first_index columns is

-- the primary index first, and then in the order of creation
abbrev pub join_index : Schema → TableDef → List ℕ → Option ℕ
join_index objects t columns = if begins_with columns t.primary then Some t.number else first_index columns (indexes_of objects t.number)

-- the second table of a view, if it has one, and the columns of the first that are equal to its key
abbrev pub second_of : ResolvedQuery → Option (TableDef × List ℕ)
second_of query = elim query.joins [ [] ↦ None | j ∷ js ↦ option_map (λ second. (second, join_columns (terms j.on) second)) (as_table j.object) ]

abbrev pub lacks_index : Schema → TableDef → ResolvedQuery → Bool
lacks_index objects first query = option_map_or (λ second. is_none (join_index objects first second.1)) (second_of query) false

abbrev pub index_test : Schema → ResolvedQuery → List Test
index_test objects query = elim (as_table query.first) [ None ↦ [] | Some first ↦ (lacks_index objects first query, NeedsIndex first.name) ∷ [] ]

-- ---- statements, of which one has so many bytes as it is printed

abbrev pub tests : Schema → ℕ → Resolved → List Test
tests objects size (table name columns primary) =
    let kinds : List Kind = map (λ c. c.kind) columns in
    rule ColumnTwice (repeats same_number primary)
    ∷ at_most Columns (length columns)
    ∷ at_most Tables (length (filter_map as_table objects) + 1)
    ∷ at_most KeyWidth (width key_width (items_at kinds primary))
    ∷ at_most RowWidth (width row_width kinds)
    ∷ at_most DefinitionBytes size
    ∷ []
tests objects size (index name target columns) =
    rule ColumnTwice (repeats same_number columns)
    ∷ rule NoTable (not (is_table target))
    ∷ at_most Columns (length columns)
    ∷ at_most Indexes (length (filter_map as_index objects) + 1)
    ∷ at_most KeyWidth (width key_width (items_at (object_kinds objects target) (columns ++ primary_of (Some target))))
    ∷ at_most DefinitionBytes size
    ∷ []
tests objects size (view name query) =
    query_rules query ++ (view_rules query ++ (
    at_most Columns (length query.group)
    ∷ at_most Views (length (filter_map as_view objects) + 1)
    ∷ (list_any (λ o. nat_lt (most_of Readers) (readers objects (object_number o) + 1)) (sources_of query), refusal.Limit Readers)
    ∷ at_most KeyWidth (width key_width (filter_map (kind_at (kinds_seen objects query)) query.group))
    ∷ at_most Sums (sums_in query.items)
    ∷ at_most DefinitionBytes size
    ∷ index_test objects query))
tests objects size (insert target tuples) =
    rule TupleLength (is_table target && not (list_all (λ tuple. length tuple == length (object_columns target)) tuples))
    ∷ rule NoTable (not (is_table target))
    ∷ []
tests objects size (update target sets condition) =
    rule KeySet (list_any (λ a. list_any (λ key. key == a.column) (primary_of (Some target))) sets)
    ∷ rule SetTwice (repeats (λ a b. a.column == b.column) sets)
    ∷ rule NoTable (not (is_table target))
    ∷ []
tests objects size (delete target condition) = rule NoTable (not (is_table target)) ∷ []
tests objects size (select query order) =
    query_rules query ++ (rule NoItem (not (list_all (λ o. is_some (item_named query.items o.by)) order)) ∷ at_most Columns (length query.group) ∷ [])
tests objects size control = []
