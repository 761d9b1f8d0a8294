-- No clause of `run` rests on this module: it serves contracts between crates.
--
-- Schemas within the limits of definitions, and what the rows of their tables take.
use Rattle.std.specs.Prelude.{◌≡◌, ℕ, ◌≤◌, List, [], ◌∷◌, ◌++◌, length, Option, Some, Ok}
use Rattle.std.specs.List.{filter_map}
use Rattle.iv_types.specs.declared.value.Kind.{Kind}
use Rattle.iv_types.specs.declared.value.Value.{Value}
use Rattle.iv_types.specs.declared.limit.TheConstants.{MOST_OBJECTS, MOST_KEY_WIDTH, MOST_ROW_WIDTH, MOST_SUMS}
use Rattle.iv_types.specs.Encoding.{FitAll, kinds_of, row_bytes, key_bytes}
use Rattle.iv_types.specs.Syntax.{StatementTree}
use Rattle.iv_meaning.specs.Schema.{Schema, Object, table, index, view, numbered, as_table, as_index, as_view, items_at, kinds_of_table, primary_of, group_kinds}
use Rattle.iv_meaning.specs.Shape.{width, key_width, row_width}
use Rattle.iv_meaning.specs.Database.{Database}
use Rattle.iv_meaning.specs.Sound.{IsSound}
use Rattle.iv_meaning.specs.Statement.{create}
use Rattle.iv_meaning.specs.Binding.{bind}

-- the keys of its indexes and its rows are no wider than they may be
abbrev pub IsNarrow : Schema → Object → Type 0
IsNarrow objects (table t) = (width key_width (items_at (kinds_of t) t.primary) ≤ MOST_KEY_WIDTH) × (width row_width (kinds_of t) ≤ MOST_ROW_WIDTH)
IsNarrow objects (index i) =
    let of : Option Object = numbered objects i.table in
    width key_width (items_at (kinds_of_table of) (i.columns ++ primary_of of)) ≤ MOST_KEY_WIDTH
IsNarrow objects (view v) = (width key_width (group_kinds objects v) ≤ MOST_KEY_WIDTH) × (length v.sums ≤ MOST_SUMS)

pub record IsLimited (objects : Schema) : Type 0 where
  pub tables : length (filter_map as_table objects) ≤ MOST_OBJECTS
  pub indexes : length (filter_map as_index objects) ≤ MOST_OBJECTS
  pub views : length (filter_map as_view objects) ≤ MOST_OBJECTS
  pub narrow : (n : ℕ) (o : Object) → numbered objects n ≡ Some o → IsNarrow objects o

-- what a statement creates stays within the limits
abbrev pub LimitedLaw : Type 0
LimitedLaw = (db : Database) → IsSound db → IsLimited db.schema → (statement : StatementTree) (o : Object) → bind db.schema statement ≡ Ok (create o) → IsLimited (db.schema ++ o ∷ [])

-- a schema without objects is within them, and no object of one that is has a number above 192
abbrev pub NumbersLaw : Type 0
NumbersLaw = IsLimited [] × ((objects : Schema) → IsLimited objects → length objects ≤ 192)

-- values that fit take no more bytes than their columns are wide, in a row and in a key
abbrev pub WidthLaw : Type 0
WidthLaw = (kinds : List Kind) (row : List Value) → FitAll kinds row → (length (row_bytes kinds row) ≤ width row_width kinds) × (length (key_bytes kinds row) ≤ width key_width kinds)
