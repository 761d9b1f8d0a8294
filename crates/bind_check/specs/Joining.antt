-- No clause of `run` rests on this module: it serves contracts between crates.
--
-- The terms by which two tables are joined, and the index that a join needs.
use Rattle.std.specs.Prelude.{ℕ, Bool, false, ◌&&◌, ◌==◌, List, map, slice_get, Option, Some, None, if◌then◌else◌}
use Rattle.std.specs.List.{find, list_any}
use Rattle.std.specs.Option.{option_and_then, option_map, option_map_or}
use Rattle.iv_types.specs.declared.expression.ColumnAt.{ColumnAt}
use Rattle.iv_types.specs.declared.catalog.TableDef.{TableDef}
use Rattle.iv_types.specs.Encoding.{kinds_of}
use Rattle.iv_types.specs.Syntax as s
use Rattle.iv_types.specs.Syntax.{Tree}
use Rattle.iv_meaning.specs.Schema.{Object, as_table, index}
use Rattle.iv_meaning.specs.Shape.{terms, joins_by, both_kinds}
use Rattle.iv_meaning.specs.Tests.{begins_with, join_columns}
use Rattle.iv_meaning.specs.Resolving.{Joined}
use denote.Ref.{Bor}

-- a column of the first relation and one of the second
abbrev pub joined_by : ColumnAt → ColumnAt → Option (ℕ × ℕ)
joined_by a b =
    if (a.source == 0) && (b.source == 1) then Some (a.column, b.column)
    else if (a.source == 1) && (b.source == 0) then Some (b.column, a.column)
    else None

abbrev pub perhaps_joined : Option ColumnAt → Option ColumnAt → Option (ℕ × ℕ)
perhaps_joined (Some a) (Some b) = joined_by a b
perhaps_joined _ _ = None

-- for each term of a condition the columns that it holds equal
abbrev pub pairs_of : Tree → List (Option (ℕ × ℕ))
pairs_of e = map joins_by (terms e)

abbrev pub pair_is_key : TableDef → TableDef → ℕ × ℕ → Bool
pair_is_key first second p = list_any (λ place. place == p.1) second.primary && both_kinds (slice_get (kinds_of first) p.0) (slice_get (kinds_of second) p.1)

abbrev pub is_key : TableDef → TableDef → Option (ℕ × ℕ) → Bool
is_key first second pair = option_map_or (pair_is_key first second) pair false

-- the term is equal to the column of this place
abbrev pub is_of_column : ℕ → Option (ℕ × ℕ) → Bool
is_of_column place pair = option_map_or (λ p. p.1 == place) pair false

-- the place of an expression that is a column
abbrev pub place_in : Tree → Option ColumnAt
place_in (s.at place) = Some place
place_in e = None

-- ---- the columns of the first table

abbrev pub left_in : Option (ℕ × ℕ) → Option ℕ
left_in = option_map (λ p. p.0)

-- the first column that a term holds equal to the column of this place
abbrev pub first_left : List (Option (ℕ × ℕ)) → ℕ → Option ℕ
first_left pairs place = option_and_then left_in (find (is_of_column place) pairs)

-- an index of a table that begins with these columns
abbrev pub serves : ℕ → List ℕ → Object → Bool
serves number columns (index i) = (i.table == number) && begins_with columns i.columns
serves number columns _ = false

abbrev pub second_seen : Bor TableDef × List ℕ → TableDef × List ℕ
second_seen p = (p.0.now, p.1)

abbrev pub joined_second : Joined → Option (TableDef × List ℕ)
joined_second j = option_map (λ second. (second, join_columns (terms j.on) second)) (as_table j.object)
