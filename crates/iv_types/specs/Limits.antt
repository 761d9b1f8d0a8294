-- The limits of statements and the rules of their shape, by the numbers that refusals name.
use Rattle.std.specs.Prelude.{◌≡◌, ◌<◌, ℕ, ◌==◌, nat_le, Bool, true, Option, Some, None, if◌then◌else◌}
use Rattle.iv_types.specs.declared.limit.TheConstants.{LONGEST_NAME, GREATEST_NUMBER, LONGEST_TEXT, MOST_NESTING, MOST_ROWS, MOST_COLUMNS, MOST_RELATIONS, MOST_OBJECTS, MOST_READERS, MOST_KEY_WIDTH, MOST_ROW_WIDTH, MOST_SUMS, LONGEST_DEFINITION, MOST_SAVEPOINTS, MOST_ITEMS, MOST_OPERATIONS}
use Rattle.iv_types.specs.declared.limit.Limit.{Limit}
use Rattle.iv_types.specs.declared.limit.Limit.TheVariants.{NameBytes, NumberValue, TextBytes, Nesting, Rows, Columns, Relations, Tables, Indexes, Views, Readers, KeyWidth, RowWidth, Sums, DefinitionBytes, Savepoints, Items, Operations}
use Rattle.iv_types.specs.declared.limit.ShapeRule.{ShapeRule}
use Rattle.iv_types.specs.declared.limit.ShapeRule.TheVariants.{ColumnTwice, TupleLength, KeySet, SetTwice, NoTable, NoGroup, OtherItem, NotManyToOne, NoViewList, Arithmetic, ViewOfView, NoItem}

-- ---- limits

-- the most of each
abbrev pub most_of : Limit → ℕ
most_of NameBytes = LONGEST_NAME
most_of NumberValue = GREATEST_NUMBER
most_of TextBytes = LONGEST_TEXT
most_of Nesting = MOST_NESTING
most_of Rows = MOST_ROWS
most_of Columns = MOST_COLUMNS
most_of Relations = MOST_RELATIONS
most_of Tables = MOST_OBJECTS
most_of Indexes = MOST_OBJECTS
most_of Views = MOST_OBJECTS
most_of Readers = MOST_READERS
most_of KeyWidth = MOST_KEY_WIDTH
most_of RowWidth = MOST_ROW_WIDTH
most_of Sums = MOST_SUMS
most_of DefinitionBytes = LONGEST_DEFINITION
most_of Savepoints = MOST_SAVEPOINTS
most_of Items = MOST_ITEMS
most_of Operations = MOST_OPERATIONS

abbrev pub limit_number : Limit → ℕ
limit_number NameBytes = 1
limit_number NumberValue = 2
limit_number TextBytes = 3
limit_number Nesting = 4
limit_number Rows = 5
limit_number Columns = 6
limit_number Relations = 7
limit_number Tables = 8
limit_number Indexes = 9
limit_number Views = 10
limit_number Readers = 11
limit_number KeyWidth = 12
limit_number RowWidth = 13
limit_number Sums = 14
limit_number DefinitionBytes = 15
limit_number Savepoints = 16
limit_number Items = 17
limit_number Operations = 18

-- ---- shape

abbrev pub rule_number : ShapeRule → ℕ
rule_number ColumnTwice = 1
rule_number TupleLength = 2
rule_number KeySet = 3
rule_number SetTwice = 4
rule_number NoTable = 5
rule_number NoGroup = 6
rule_number OtherItem = 7
rule_number NotManyToOne = 8
rule_number NoViewList = 9
rule_number Arithmetic = 10
rule_number ViewOfView = 11
rule_number NoItem = 12

-- ---- the grammar

-- The most of each thing; None sets no limit.
pub record Limits : Type 0 where
  -- 1: bytes of a name
  pub name_bytes : Option ℕ
  -- 2: value of a number literal
  pub number_value : Option ℕ
  -- 3: bytes of a text literal
  pub text_bytes : Option ℕ
  -- 4: nesting of an expression
  pub nesting : ℕ
  -- 5: rows of one INSERT
  pub rows : ℕ
  -- 7: relations in FROM
  pub relations : ℕ
  -- 17: items of a SELECT
  pub items : ℕ
  -- 18: operations of one expression
  pub operations : ℕ

-- the limits as they stand
abbrev pub the_limits : Limits
the_limits = record {
  name_bytes = Some LONGEST_NAME;
  number_value = Some GREATEST_NUMBER;
  text_bytes = Some LONGEST_TEXT;
  nesting = MOST_NESTING;
  rows = MOST_ROWS;
  relations = MOST_RELATIONS;
  items = MOST_ITEMS;
  operations = MOST_OPERATIONS;
}

-- the limit of the grammar that has a number
abbrev pub limit_of : ℕ → Limit
limit_of which =
    if which == 1 then NameBytes else if which == 2 then NumberValue else if which == 3 then TextBytes else if which == 4 then Nesting
    else if which == 5 then Rows else if which == 7 then Relations else if which == 17 then Items else Operations

abbrev pub allows : Option ℕ → ℕ → Bool
allows None n = true
allows (Some most) n = nat_le n most

-- the same limits of all numbers below w
pub record Agree (w : ℕ) (l m : Limits) : Type 0 where
  pub name_bytes : 1 < w → l.name_bytes ≡ m.name_bytes
  pub number_value : 2 < w → l.number_value ≡ m.number_value
  pub text_bytes : 3 < w → l.text_bytes ≡ m.text_bytes
  pub nesting : 4 < w → l.nesting ≡ m.nesting
  pub rows : 5 < w → l.rows ≡ m.rows
  pub relations : 7 < w → l.relations ≡ m.relations
  pub items : 17 < w → l.items ≡ m.items
  pub operations : 18 < w → l.operations ≡ m.operations
