-- The one text of a statement: keywords in capitals, names in lower case, one space between tokens except none after
-- `(` and before `)`, `,` and around `.`, and none between the minus and the digits of a negative literal.
use Rattle.std.specs.Prelude.{ℕ, pos, negsuc, suc, ◌+◌, ◌==◌, ◌||◌, nat_le, min, Bool, true, false, List, [], ◌∷◌, ◌++◌, length, Option, Some, None, if◌then◌else◌, codes, decimal}
use Rattle.std.specs.List.{flat_map}
use Rattle.text_grammar.specs.Languages.{fold_left}
use Rattle.iv_types.specs.declared.limit.TheConstants.{LONGEST_DEFINITION}
use Rattle.iv_types.specs.declared.terminal.Terminal.{Terminal}
use Rattle.iv_types.specs.declared.terminal.Terminal.TheVariants as t
use Rattle.iv_types.specs.declared.expression.Op.{Op}
use Rattle.iv_types.specs.declared.expression.Op.TheVariants as op
use Rattle.iv_types.specs.declared.expression.Ref.{Ref}
use Rattle.iv_types.specs.declared.value.Kind.{Kind}
use Rattle.iv_types.specs.declared.value.Kind.TheVariants as kind
use Rattle.iv_types.specs.declared.statement.ColumnDef.{ColumnDef}
use Rattle.iv_types.specs.declared.statement.Relation.{Relation}
use Rattle.iv_types.specs.declared.statement.OrderKey.{OrderKey}
use Rattle.iv_types.specs.declared.statement.OrderKey.TheVariants as key
use Rattle.iv_types.specs.declared.statement.Order.{Order}
use Rattle.iv_types.specs.declared.statement.Mode.TheVariants as mode
use Rattle.iv_types.specs.Terminals.{same, spelling}
use Rattle.iv_types.specs.Syntax as s
use Rattle.iv_types.specs.Syntax.{Tree, JoinTree, ItemTree, QueryTree, SetTree, StatementTree}

-- ---- pieces of a text

-- a token; a negative literal, its minus and its digits, is one piece
pub data Piece : Type 0 where
  fixed : Terminal → Piece
  name : List ℕ → Piece
  number : ℕ → Piece
  negative : ℕ → Piece
  text : List ℕ → Piece

-- a quote is written as two
abbrev pub quoted_byte : ℕ → List ℕ
quoted_byte b = if b == 39 then 39 ∷ 39 ∷ [] else b ∷ []

-- a text between quotes
abbrev pub quoted_text : List ℕ → List ℕ
quoted_text content = 39 ∷ (flat_map quoted_byte content ++ 39 ∷ [])

abbrev pub piece_text : Piece → List ℕ
piece_text (fixed k) = spelling k
piece_text (name n) = n
piece_text (number n) = decimal n
piece_text (negative n) = 45 ∷ decimal n
piece_text (text content) = quoted_text content

abbrev pub is_mark : Terminal → Piece → Bool
is_mark k (fixed j) = same j k
is_mark k _ = false

-- whether a space stands between two pieces
abbrev pub is_spaced : Piece → Piece → Bool
is_spaced p q = if (is_mark t.Open p || is_mark t.Point p) || ((is_mark t.Close q || is_mark t.Comma q) || is_mark t.Point q) then false else true

-- a text that is being written, and its last piece
pub record Written : Type 0 where
  pub text : List ℕ
  pub last : Option Piece

abbrev pub nothing_written : Written
nothing_written = record { text = []; last = None }

abbrev pub gap : Option Piece → Piece → List ℕ
gap None q = []
gap (Some p) q = if is_spaced p q then codes " " else []

abbrev pub put : Written → Piece → Written
put w q = record { text = w.text ++ (gap w.last q ++ piece_text q); last = Some q }

abbrev pub write : Written → List Piece → Written
write = fold_left put

-- ---- expressions

-- The places of an expression, by the rules of the grammar: 0 an expression, 1 an operand of OR, 2 one of AND or NOT,
-- 3 a comparison, 4 its operand, 5 one of + and -, 6 one of *, 7 what stands behind a minus.

-- the tightest place at which an operation can stand
abbrev pub operator_rank : Op → ℕ
operator_rank op.Or = 0
operator_rank op.And = 1
operator_rank op.Equal = 3
operator_rank op.NotEqual = 3
operator_rank op.Less = 3
operator_rank op.AtMost = 3
operator_rank op.Greater = 3
operator_rank op.AtLeast = 3
operator_rank op.Add = 4
operator_rank op.Subtract = 4
operator_rank op.Multiply = 5

-- the places of its operands
abbrev pub left_place : Op → ℕ
left_place op.Or = 0
left_place op.And = 1
left_place op.Add = 4
left_place op.Subtract = 4
left_place op.Multiply = 5
left_place _ = 4

abbrev pub right_place : Op → ℕ
right_place op.Or = 1
right_place op.And = 2
right_place op.Add = 5
right_place op.Subtract = 5
right_place op.Multiply = 6
right_place _ = 4

abbrev pub operator_mark : Op → Terminal
operator_mark op.Or = t.Or
operator_mark op.And = t.And
operator_mark op.Equal = t.Equal
operator_mark op.NotEqual = t.NotEqual
operator_mark op.Less = t.Less
operator_mark op.AtMost = t.AtMost
operator_mark op.Greater = t.Greater
operator_mark op.AtLeast = t.AtLeast
operator_mark op.Add = t.Plus
operator_mark op.Subtract = t.Minus
operator_mark op.Multiply = t.Star

-- the tightest place at which an expression stands without parentheses
abbrev pub rank : Tree → ℕ
rank (s.number (pos n)) = 6
rank (s.number (negsuc n)) = 7
rank (s.word bytes) = 7
rank (s.named ref) = 7
rank (s.at place) = 7
rank (s.minus e) = 7
rank (s.not e) = 2
rank (s.pair o a b) = operator_rank o

-- in parentheses, unless the test holds
abbrev pub enclosed_unless : Bool → List Piece → List Piece
enclosed_unless true ps = ps
enclosed_unless false ps = fixed t.Open ∷ (ps ++ fixed t.Close ∷ [])

abbrev pub ref_pieces : Ref → List Piece
ref_pieces ref = elim ref.qualifier [
  | None ↦ name ref.name ∷ []
  | Some q ↦ name q ∷ fixed t.Point ∷ name ref.name ∷ []
]

-- an expression without parentheses around it
unfoldable pub bare_pieces : Tree → List Piece
bare_pieces (s.number (pos n)) = number n ∷ []
bare_pieces (s.number (negsuc n)) = negative (suc n) ∷ []
bare_pieces (s.word bytes) = text bytes ∷ []
bare_pieces (s.named ref) = ref_pieces ref
bare_pieces (s.at place) = []
bare_pieces (s.minus e) = fixed t.Minus ∷ enclosed_unless (nat_le 7 (rank e)) (bare_pieces e)
bare_pieces (s.not e) = fixed t.Not ∷ enclosed_unless (nat_le 2 (rank e)) (bare_pieces e)
bare_pieces (s.pair o a b) =
    enclosed_unless (nat_le (left_place o) (rank a)) (bare_pieces a)
    ++ fixed (operator_mark o) ∷ enclosed_unless (nat_le (right_place o) (rank b)) (bare_pieces b)

-- an expression at a place
abbrev pub tree_pieces : ℕ → Tree → List Piece
tree_pieces place e = enclosed_unless (nat_le place (rank e)) (bare_pieces e)

-- ---- statements

-- with commas between them
abbrev pub with_commas : {A : Type 0} → (A → List Piece) → List A → List Piece
with_commas pieces [] = []
with_commas pieces (x ∷ []) = pieces x
with_commas pieces (x ∷ y ∷ xs) = pieces x ++ fixed t.Comma ∷ with_commas pieces (y ∷ xs)

abbrev pub enclosed : List Piece → List Piece
enclosed ps = fixed t.Open ∷ (ps ++ fixed t.Close ∷ [])

abbrev pub name_pieces : List ℕ → List Piece
name_pieces n = name n ∷ []

abbrev pub names_pieces : List (List ℕ) → List Piece
names_pieces names = enclosed (with_commas name_pieces names)

-- behind a keyword, where there is something
abbrev pub perhaps_pieces : {A : Type 0} → Terminal → (A → List Piece) → Option A → List Piece
perhaps_pieces k pieces None = []
perhaps_pieces k pieces (Some x) = fixed k ∷ pieces x

abbrev pub kind_mark : Kind → Terminal
kind_mark kind.Int = t.Int
kind_mark kind.Huge = t.Huge
kind_mark kind.Text = t.Text

abbrev pub column_pieces : ColumnDef → List Piece
column_pieces column = name column.name ∷ fixed (kind_mark column.kind) ∷ fixed t.Comma ∷ []

abbrev pub alias_pieces : Option (List ℕ) → List Piece
alias_pieces = perhaps_pieces t.As name_pieces

abbrev pub item_pieces : ItemTree → List Piece
item_pieces s.all = fixed t.Star ∷ []
item_pieces (s.count alias) = fixed t.Count ∷ (enclosed (fixed t.Star ∷ []) ++ alias_pieces alias)
item_pieces (s.sum ref alias) = fixed t.Sum ∷ (enclosed (ref_pieces ref) ++ alias_pieces alias)
item_pieces (s.plain e alias) = tree_pieces 0 e ++ alias_pieces alias

abbrev pub relation_pieces : Relation → List Piece
relation_pieces relation = name relation.name ∷ alias_pieces relation.alias

abbrev pub join_pieces : JoinTree → List Piece
join_pieces join = fixed t.Join ∷ (relation_pieces join.relation ++ fixed t.On ∷ tree_pieces 0 join.on)

abbrev pub condition_pieces : Option Tree → List Piece
condition_pieces = perhaps_pieces t.Where (tree_pieces 0)

abbrev pub group_pieces : List Ref → List Piece
group_pieces [] = []
group_pieces (ref ∷ refs) = fixed t.Group ∷ fixed t.By ∷ with_commas ref_pieces (ref ∷ refs)

abbrev pub query_pieces : QueryTree → List Piece
query_pieces q =
    fixed t.Select ∷ (with_commas item_pieces q.items
    ++ fixed t.From ∷ (relation_pieces q.first ++ (flat_map join_pieces q.joins ++ (condition_pieces q.condition ++ group_pieces q.group))))

abbrev pub set_pieces : SetTree → List Piece
set_pieces set = name set.name ∷ fixed t.Equal ∷ tree_pieces 0 set.value

abbrev pub key_pieces : OrderKey → List Piece
key_pieces (key.Place (pos n)) = number n ∷ []
key_pieces (key.Place (negsuc n)) = negative (suc n) ∷ []
key_pieces (key.Name n) = name n ∷ []

-- a rising order is not marked
abbrev pub order_pieces : Order → List Piece
order_pieces order = key_pieces order.by ++ (if order.descending then fixed t.Desc ∷ [] else [])

abbrev pub orders_pieces : List Order → List Piece
orders_pieces [] = []
orders_pieces (order ∷ orders) = fixed t.Order ∷ fixed t.By ∷ with_commas order_pieces (order ∷ orders)

abbrev pub tuple_pieces : List Tree → List Piece
tuple_pieces tuple = enclosed (with_commas (tree_pieces 0) tuple)

abbrev pub statement_pieces : StatementTree → List Piece
statement_pieces (s.create_table n columns primary) =
    fixed t.Create ∷ fixed t.Table ∷ name n ∷ enclosed (flat_map column_pieces columns ++ fixed t.Primary ∷ fixed t.Key ∷ names_pieces primary)
statement_pieces (s.create_index n table columns) = fixed t.Create ∷ fixed t.Index ∷ name n ∷ fixed t.On ∷ name table ∷ names_pieces columns
statement_pieces (s.create_view n query) = fixed t.Create ∷ fixed t.Indexed ∷ fixed t.View ∷ name n ∷ fixed t.As ∷ query_pieces query
statement_pieces (s.insert table tuples) = fixed t.Insert ∷ fixed t.Into ∷ name table ∷ fixed t.Values ∷ with_commas tuple_pieces tuples
statement_pieces (s.update table sets condition) = fixed t.Update ∷ name table ∷ fixed t.Set ∷ (with_commas set_pieces sets ++ condition_pieces condition)
statement_pieces (s.delete table condition) = fixed t.Delete ∷ fixed t.From ∷ name table ∷ condition_pieces condition
statement_pieces (s.select query order) = query_pieces query ++ orders_pieces order
statement_pieces (s.begin mode.Serial) = fixed t.Begin ∷ []
statement_pieces (s.begin mode.Snapshot) = fixed t.Begin ∷ fixed t.Snapshot ∷ []
statement_pieces s.commit = fixed t.Commit ∷ []
statement_pieces (s.rollback to) = fixed t.Rollback ∷ perhaps_pieces t.To name_pieces to
statement_pieces (s.savepoint n) = fixed t.Savepoint ∷ name n ∷ []

abbrev pub statement_text : StatementTree → List ℕ
statement_text statement = (write nothing_written (statement_pieces statement)).text

-- the most bytes that are counted of a statement's text
abbrev pub most_counted : ℕ
most_counted = LONGEST_DEFINITION + 1

-- the size of the statement's text, or the most that is counted
abbrev pub statement_size : StatementTree → ℕ
statement_size statement = min most_counted (length (statement_text statement))
