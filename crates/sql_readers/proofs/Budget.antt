-- The grammar of an expression with no more than b operations, by what is left of them at each token: so it shows at which
-- token there is one too many. `Counting` has that these are the grammar's trees that have no more.
use Rattle.std.specs.Prelude.{ℕ, zero, suc, ◌-◌, nat_lt, Option}
use Rattle.text_grammar.specs.Languages.{Lang, One, Then, Both, Behind, Before, Mapped, Either, Nothing, Perhaps, Row}
use Rattle.iv_types.specs.declared.terminal.Terminal.TheVariants as t
use Rattle.iv_types.specs.declared.expression.Op.{Op}
use Rattle.iv_types.specs.Tokens.{Symbol}
use Rattle.iv_types.specs.Limits.{Limits}
use Rattle.iv_types.specs.Syntax as s
use Rattle.iv_types.specs.Syntax.{Tree}
use Rattle.iv_types.specs.Expressions.{the, text_in, or_op, and_op, comparison_op, sum_op, product_op, operations, paired, ANumber, AReference, positive, negative, compared}
use Rattle.iv_types.specs.Grammar.{Only}

-- with one operation less, where there is one
abbrev pub Spent : {T A : Type 0} → (ℕ → Lang T A) → ℕ → Lang T A
Spent p zero = Nothing
Spent p (suc b) = p b

-- an operator and the operand behind it, with what a tree leaves of b operations, and the operator's own taken off
abbrev pub Operand : (Symbol → Option Op) → (ℕ → Lang Symbol Tree) → ℕ → Tree → Lang Symbol (Op × Tree)
Operand pick p b a = Only (nat_lt (operations a) b) (Then (One pick) (p (b - suc (operations a))))

-- operand { operator operand }, grouped from the left, with no more than b operations in all
abbrev pub Chain : (Symbol → Option Op) → (ℕ → Lang Symbol Tree) → ℕ → Lang Symbol Tree
Chain pick p b = Row (λ a. a) paired (p b) (Operand pick p b)

-- what stands one level of nesting further in, with the token that leads there
pub record Nested : Type 1 where
  pub group : ℕ → Lang Symbol Tree
  pub minus : ℕ → Lang Symbol Tree
  pub inversion : ℕ → Lang Symbol Tree

-- minus | group | text | ref
unfoldable pub Signed : Limits → Nested → ℕ → Lang Symbol Tree
Signed l n b = Either (n.minus b) (Either (n.group b) (Either (Mapped s.word (One (text_in l.text_bytes))) (Mapped s.named (AReference l))))

-- number | minus | group | text | ref
unfoldable pub Unary : Limits → Nested → ℕ → Lang Symbol Tree
Unary l n b = Either (Mapped positive (ANumber l)) (Signed l n b)

-- what stands behind a minus: a number token makes a negative literal
unfoldable pub Negated : Limits → Nested → ℕ → Lang Symbol Tree
Negated l n b = Either (Mapped negative (ANumber l)) (Spent (λ c. Mapped s.minus (Signed l n c)) b)

-- unary { "*" unary }
unfoldable pub Product : Limits → Nested → ℕ → Lang Symbol Tree
Product l n b = Chain product_op (Unary l n) b

-- product { ( "+" | "-" ) product }
unfoldable pub Sum : Limits → Nested → ℕ → Lang Symbol Tree
Sum l n b = Chain sum_op (Product l n) b

-- sum [ comparison sum ]
unfoldable pub Comparison : Limits → Nested → ℕ → Lang Symbol Tree
Comparison l n b = Mapped compared (Both (Sum l n b) (λ a. Perhaps (Operand comparison_op (Sum l n) b a)))

-- NOT negation | comparison
unfoldable pub Negation : Limits → Nested → ℕ → Lang Symbol Tree
Negation l n b = Either (n.inversion b) (Comparison l n b)

-- negation { AND negation }
unfoldable pub Conjunction : Limits → Nested → ℕ → Lang Symbol Tree
Conjunction l n b = Chain and_op (Negation l n) b

-- conjunction { OR conjunction }
unfoldable pub Disjunction : Limits → Nested → ℕ → Lang Symbol Tree
Disjunction l n b = Chain or_op (Conjunction l n) b

-- so many levels
unfoldable pub nested : Limits → ℕ → Nested
nested l zero = record { group = λ _. Nothing; minus = λ _. Nothing; inversion = λ _. Nothing }
nested l (suc n) = record {
  group = λ b. Behind (the t.Open) (Before (the t.Close) (Disjunction l (nested l n) b));
  minus = λ b. Behind (the t.Minus) (Negated l (nested l n) b);
  inversion = Spent (λ c. Behind (the t.Not) (Mapped s.not (Negation l (nested l n) c)));
}
