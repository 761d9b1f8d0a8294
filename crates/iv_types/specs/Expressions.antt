-- The written grammar of an expression.
use Rattle.std.specs.Prelude.{ℕ, zero, suc, ◌+◌, ◌≤◌, pos, neg_ℤ, List, length, Option, Some, None, if◌then◌else◌}
use Rattle.text_grammar.specs.Languages.{Lang, One, Then, Behind, Before, Mapped, Either, Nothing, Perhaps, Row}
use Rattle.iv_types.specs.declared.terminal.Terminal.{Terminal}
use Rattle.iv_types.specs.declared.terminal.Terminal.TheVariants as t
use Rattle.iv_types.specs.declared.expression.Op.{Op}
use Rattle.iv_types.specs.declared.expression.Op.TheVariants as op
use Rattle.iv_types.specs.declared.expression.Ref.{Ref}
use Rattle.iv_types.specs.Terminals.{same}
use Rattle.iv_types.specs.Tokens.{Symbol, fixed, name, number, text}
use Rattle.iv_types.specs.Limits.{Limits, allows}
use Rattle.iv_types.specs.Syntax as s
use Rattle.iv_types.specs.Syntax.{Tree}

-- ---- single tokens

-- a keyword or a mark
abbrev pub the : Terminal → Symbol → Option (Unit {0})
the k (fixed j) = if same j k then Some tt else None
the k _ = None

-- a name, a number, a text within a limit
abbrev pub name_in : Option ℕ → Symbol → Option (List ℕ)
name_in most (name n) = if allows most (length n) then Some n else None
name_in most _ = None

abbrev pub number_in : Option ℕ → Symbol → Option ℕ
number_in most (number n) = if allows most n then Some n else None
number_in most _ = None

abbrev pub text_in : Option ℕ → Symbol → Option (List ℕ)
text_in most (text content) = if allows most (length content) then Some content else None
text_in most _ = None

abbrev pub or_op : Symbol → Option Op
or_op (fixed t.Or) = Some op.Or
or_op _ = None

abbrev pub and_op : Symbol → Option Op
and_op (fixed t.And) = Some op.And
and_op _ = None

abbrev pub comparison_op : Symbol → Option Op
comparison_op (fixed t.Equal) = Some op.Equal
comparison_op (fixed t.NotEqual) = Some op.NotEqual
comparison_op (fixed t.Less) = Some op.Less
comparison_op (fixed t.AtMost) = Some op.AtMost
comparison_op (fixed t.Greater) = Some op.Greater
comparison_op (fixed t.AtLeast) = Some op.AtLeast
comparison_op _ = None

abbrev pub sum_op : Symbol → Option Op
sum_op (fixed t.Plus) = Some op.Add
sum_op (fixed t.Minus) = Some op.Subtract
sum_op _ = None

abbrev pub product_op : Symbol → Option Op
product_op (fixed t.Star) = Some op.Multiply
product_op _ = None

-- ---- operations

-- Binary operators, NOTs, and unary minuses; the minus of a negative literal is none.
abbrev pub operations : Tree → ℕ
operations (s.number n) = 0
operations (s.word bytes) = 0
operations (s.named ref) = 0
operations (s.at place) = 0
operations (s.not e) = suc (operations e)
operations (s.minus e) = suc (operations e)
operations (s.pair o a b) = suc (operations a + operations b)

-- an operator and its right operand behind the left one
abbrev pub paired : Tree → Op × Tree → Tree
paired a x = s.pair x.0 a x.1

-- operand { operator operand }, grouped from the left
abbrev pub Chain : (Symbol → Option Op) → Lang Symbol Tree → Lang Symbol Tree
Chain pick p = Row (λ a. a) paired p (λ _. Then (One pick) p)

-- ---- the ladder

-- what stands one level of nesting further in, with the token that leads there
pub record Nested : Type 1 where
  pub group : Lang Symbol Tree
  pub minus : Lang Symbol Tree
  pub inversion : Lang Symbol Tree

abbrev pub AName : Limits → Lang Symbol (List ℕ)
AName l = One (name_in l.name_bytes)

abbrev pub ANumber : Limits → Lang Symbol ℕ
ANumber l = One (number_in l.number_value)

abbrev pub ref_of : List ℕ × Option (List ℕ) → Ref
ref_of x = elim x.1 [
  | None ↦ record { qualifier = None; name = x.0 }
  | Some column ↦ record { qualifier = Some x.0; name = column }
]

-- name [ "." name ]
unfoldable pub AReference : Limits → Lang Symbol Ref
AReference l = Mapped ref_of (Then (AName l) (Perhaps (Behind (the t.Point) (AName l))))

abbrev pub positive : ℕ → Tree
positive n = s.number (pos n)

abbrev pub negative : ℕ → Tree
negative n = s.number (neg_ℤ (pos n))

-- minus | group | text | ref
unfoldable pub Signed : Limits → Nested → Lang Symbol Tree
Signed l n = Either n.minus (Either n.group (Either (Mapped s.word (One (text_in l.text_bytes))) (Mapped s.named (AReference l))))

-- number | minus | group | text | ref
unfoldable pub Unary : Limits → Nested → Lang Symbol Tree
Unary l n = Either (Mapped positive (ANumber l)) (Signed l n)

-- what stands behind a minus: a number token makes a negative literal
unfoldable pub Negated : Limits → Nested → Lang Symbol Tree
Negated l n = Either (Mapped negative (ANumber l)) (Mapped s.minus (Signed l n))

-- unary { "*" unary }
unfoldable pub Product : Limits → Nested → Lang Symbol Tree
Product l n = Chain product_op (Unary l n)

-- product { ( "+" | "-" ) product }
unfoldable pub Sum : Limits → Nested → Lang Symbol Tree
Sum l n = Chain sum_op (Product l n)

abbrev pub compared : Tree × Option (Op × Tree) → Tree
compared x = elim x.1 [ None ↦ x.0 | Some y ↦ paired x.0 y ]

-- sum [ comparison sum ]
unfoldable pub Comparison : Limits → Nested → Lang Symbol Tree
Comparison l n = Mapped compared (Then (Sum l n) (Perhaps (Then (One comparison_op) (Sum l n))))

-- NOT negation | comparison
unfoldable pub Negation : Limits → Nested → Lang Symbol Tree
Negation l n = Either n.inversion (Comparison l n)

-- negation { AND negation }
unfoldable pub Conjunction : Limits → Nested → Lang Symbol Tree
Conjunction l n = Chain and_op (Negation l n)

-- conjunction { OR conjunction }
unfoldable pub Disjunction : Limits → Nested → Lang Symbol Tree
Disjunction l n = Chain or_op (Conjunction l n)

-- so many levels
unfoldable pub nested : Limits → ℕ → Nested
nested l zero = record { group = Nothing; minus = Nothing; inversion = Nothing }
nested l (suc n) = record {
  group = Behind (the t.Open) (Before (the t.Close) (Disjunction l (nested l n)));
  minus = Behind (the t.Minus) (Negated l (nested l n));
  inversion = Behind (the t.Not) (Mapped s.not (Negation l (nested l n)));
}

-- with no more operations than are allowed
unfoldable pub AnExpression : Limits → Lang Symbol Tree
AnExpression l ts e = Disjunction l (nested l l.nesting) ts e × (operations e ≤ l.operations)
