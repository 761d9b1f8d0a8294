-- What the shape rules of statements say of items, conditions and joins, and what limits count.
use Rattle.std.specs.Prelude.{ℕ, ◌+◌, ◌==◌, ◌&&◌, ◌||◌, not, is_some, Bool, true, false, List, [], ◌∷◌, ◌++◌, slice_get, Option, Some, None, if◌then◌else◌}
use Rattle.std.specs.List.{filter_map, list_any, list_all}
use Rattle.std.specs.Option.{option_map_or}
use Rattle.std.specs.Str.{bytes_eq}
use Rattle.iv_types.specs.declared.value.Kind.{Kind}
use Rattle.iv_types.specs.declared.value.Kind.TheVariants.{Int, Huge, Text}
use Rattle.iv_types.specs.declared.expression.Op.TheVariants as op
use Rattle.iv_types.specs.declared.expression.ColumnAt.{ColumnAt}
use Rattle.iv_types.specs.declared.catalog.TableDef.{TableDef}
use Rattle.iv_types.specs.Syntax as s
use Rattle.iv_types.specs.Syntax.{Tree}
use Rattle.iv_types.specs.Encoding.{kinds_of}
use Rattle.iv_meaning.specs.Schema.{Schema, Object, as_view, table, index, view, sources_of}
use Rattle.iv_meaning.specs.Query.{BoundItem, count, sum, plain}
use Rattle.iv_meaning.specs.Resolving.{how_many, NamedItem}

-- ---- places

abbrev pub same_place : ColumnAt → ColumnAt → Bool
same_place a b = (a.source == b.source) && (a.column == b.column)

-- something stands twice
abbrev pub repeats : {X : Type 0} → (X → X → Bool) → List X → Bool
repeats same [] = false
repeats same (x ∷ xs) = list_any (same x) xs || repeats same xs

-- ---- items, terms and joins

abbrev pub is_aggregate : BoundItem → Bool
is_aggregate count = true
is_aggregate (sum place) = true
is_aggregate (plain e) = false

-- a column by which the query groups
abbrev pub is_grouped : List ColumnAt → BoundItem → Bool
is_grouped group (plain (s.at place)) = list_any (same_place place) group
is_grouped group item = false

-- the terms of a condition that AND joins
abbrev pub terms : Tree → List Tree
terms (s.pair op.And a b) = terms a ++ terms b
terms e = e ∷ []

-- a column of the first relation and one of the second that a term holds equal
abbrev pub joins_by : Tree → Option (ℕ × ℕ)
joins_by (s.pair op.Equal (s.at a) (s.at b)) =
    if (a.source == 0) && (b.source == 1) then Some (a.column, b.column)
    else if (a.source == 1) && (b.source == 0) then Some (b.column, a.column)
    else None
joins_by e = None

abbrev pub same_kind : Kind → Kind → Bool
same_kind Int Int = true
same_kind Huge Huge = true
same_kind Text Text = true
same_kind _ _ = false

abbrev pub both_kinds : Option Kind → Option Kind → Bool
both_kinds (Some k) (Some l) = same_kind k l
both_kinds _ _ = false

-- a term holds a column of the first table equal to one of the second's primary key, of the same kind
abbrev pub joins_key : TableDef → TableDef → Tree → Bool
joins_key first second e = option_map_or (λ p. list_any (λ place. place == p.1) second.primary && both_kinds (slice_get (kinds_of first) p.0) (slice_get (kinds_of second) p.1)) (joins_by e) false

-- each column of the second's primary key is joined exactly once
abbrev pub joins_whole_key : TableDef → TableDef → List Tree → Bool
joins_whole_key first second es =
    list_all (joins_key first second) es
    && list_all (λ place. how_many (λ e. option_map_or (λ p. p.1 == place) (joins_by e) false) es == 1) second.primary

abbrev pub joins_tables : Option TableDef → Option TableDef → Tree → Bool
joins_tables (Some first) (Some second) on = not (first.number == second.number) && joins_whole_key first second (terms on)
joins_tables _ _ on = false

abbrev pub is_empty : {X : Type 0} → List X → Bool
is_empty [] = true
is_empty (x ∷ xs) = false

-- a view's items behind its group columns
abbrev pub are_sums : List NamedItem → Bool
are_sums [] = true
are_sums (i ∷ is) = elim i.item [ sum place ↦ is_some i.name && are_sums is | count ↦ false | plain e ↦ false ]

abbrev pub is_count_and_sums : List NamedItem → Bool
is_count_and_sums [] = false
is_count_and_sums (i ∷ is) = elim i.item [ count ↦ is_some i.name && are_sums is | sum place ↦ false | plain e ↦ false ]

-- the group columns in their order, one count with a name, and sums with names
abbrev pub is_view_list : List ColumnAt → List NamedItem → Bool
is_view_list [] items = is_count_and_sums items
is_view_list (place ∷ group) [] = false
is_view_list (place ∷ group) (i ∷ items) = is_grouped (place ∷ []) i.item && is_view_list group items

abbrev pub has_arithmetic : Tree → Bool
has_arithmetic (s.not e) = has_arithmetic e
has_arithmetic (s.minus e) = true
has_arithmetic (s.pair op.Add a b) = true
has_arithmetic (s.pair op.Subtract a b) = true
has_arithmetic (s.pair op.Multiply a b) = true
has_arithmetic (s.pair o a b) = has_arithmetic a || has_arithmetic b
has_arithmetic _ = false

abbrev pub is_named : List ℕ → NamedItem → Bool
is_named name i = option_map_or (bytes_eq name) i.name false

-- ---- limits

-- bytes of a column of a key and of a row
abbrev pub key_width : Kind → ℕ
key_width Int = 8
key_width Huge = 16
key_width Text = 402

abbrev pub row_width : Kind → ℕ
row_width Int = 8
row_width Huge = 16
row_width Text = 202

abbrev pub width : (Kind → ℕ) → List Kind → ℕ
width of [] = 0
width of (kind ∷ kinds) = of kind + width of kinds

-- the views that read a table
abbrev pub readers : Schema → ℕ → ℕ
readers objects number = how_many (λ v. list_any (λ n. n == number) (sources_of v)) (filter_map as_view objects)

abbrev pub object_number : Object → ℕ
object_number (table t) = t.number
object_number (index i) = i.number
object_number (view v) = v.number

abbrev pub sums_in : List NamedItem → ℕ
sums_in items = how_many (λ i. elim i.item [ sum place ↦ true | count ↦ false | plain e ↦ false ]) items
