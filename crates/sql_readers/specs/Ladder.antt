-- No clause of `run` rests on this module: it serves contracts between crates.
--
-- The readers of an expression, each as the rule of the grammar that it reads.
use Rattle.std.specs.Prelude.{ℕ, zero, suc, ◌-◌, nat_lt, Bool, true, false, List, Option, if◌then◌else◌}
use Rattle.text_grammar.specs.declared.fault.Cause.{Cause}
use Rattle.text_grammar.specs.declared.fault.Cause.TheVariants.{Syntax, Limit}
use Rattle.text_grammar.specs.Readers.{Reader, is, one, one_or, both, mapped, behind, before, either, perhaps, refused, blocked, row}
use Rattle.iv_types.specs.declared.terminal.Terminal.TheVariants as t
use Rattle.iv_types.specs.declared.expression.Op.{Op}
use Rattle.iv_types.specs.declared.expression.Ref.{Ref}
use Rattle.iv_types.specs.Tokens.{Symbol, name, number, text}
use Rattle.iv_types.specs.Limits.{Limits}
use Rattle.iv_types.specs.Syntax as s
use Rattle.iv_types.specs.Syntax.{Tree}
use Rattle.iv_types.specs.Expressions.{the, name_in, number_in, text_in, or_op, and_op, comparison_op, sum_op, product_op, operations, paired, ref_of, positive, negative, compared}

-- ---- single tokens

abbrev pub is_name : Symbol → Bool
is_name (name n) = true
is_name _ = false

abbrev pub is_number : Symbol → Bool
is_number (number n) = true
is_number _ = false

abbrev pub is_text : Symbol → Bool
is_text (text content) = true
is_text _ = false

-- why a token is none of a kind: of that kind it passes the kind's limit
abbrev pub unless : (Symbol → Bool) → ℕ → Symbol → Cause
unless test limit symbol = if test symbol then Limit limit else Syntax

abbrev pub name_reader : Limits → Reader Symbol (List ℕ)
name_reader l = one_or (unless is_name 1) (name_in l.name_bytes)

abbrev pub number_reader : Limits → Reader Symbol ℕ
number_reader l = one_or (unless is_number 2) (number_in l.number_value)

abbrev pub text_reader : Limits → Reader Symbol (List ℕ)
text_reader l = one_or (unless is_text 3) (text_in l.text_bytes)

-- ---- operations

-- with one operation less, where there is one; else the first token is one too many
abbrev pub spent : {A : Type 0} → (ℕ → Reader Symbol A) → ℕ → Reader Symbol A
spent r zero = refused (Limit 18)
spent r (suc b) = r b

-- the same, where the token that follows shows that there is an operation
abbrev pub spent_late : {A : Type 0} → (ℕ → Reader Symbol A) → ℕ → Reader Symbol A
spent_late r zero = blocked (Limit 18) (r zero)
spent_late r (suc b) = r b

abbrev pub operand : (Symbol → Option Op) → (ℕ → Reader Symbol Tree) → ℕ → Tree → Reader Symbol (Op × Tree)
operand pick r b a ts = if nat_lt (operations a) b then both (one pick) (λ _. r (b - suc (operations a))) ts else refused (Limit 18) ts

abbrev pub chain : (Symbol → Option Op) → (ℕ → Reader Symbol Tree) → ℕ → Reader Symbol Tree
chain pick r b = row (is pick) (λ a. a) paired (r b) (operand pick r b)

-- ---- the ladder

-- what stands one level of nesting further in, with the token that leads there
pub record Inner : Type 0 where
  pub group : ℕ → Reader Symbol Tree
  pub minus : ℕ → Reader Symbol Tree
  pub inversion : ℕ → Reader Symbol Tree

unfoldable pub reference : Limits → Reader Symbol Ref
reference l = mapped ref_of (both (name_reader l) (λ _. perhaps (is (the t.Point)) (behind (the t.Point) (name_reader l))))

unfoldable pub signed : Limits → Inner → ℕ → Reader Symbol Tree
signed l i b = either (is (the t.Minus)) (i.minus b) (either (is (the t.Open)) (i.group b) (either is_text (mapped s.word (text_reader l)) (mapped s.named (reference l))))

unfoldable pub unary : Limits → Inner → ℕ → Reader Symbol Tree
unary l i b = either is_number (mapped positive (number_reader l)) (signed l i b)

unfoldable pub negated : Limits → Inner → ℕ → Reader Symbol Tree
negated l i b = either is_number (mapped negative (number_reader l)) (spent_late (λ c. mapped s.minus (signed l i c)) b)

unfoldable pub product : Limits → Inner → ℕ → Reader Symbol Tree
product l i b = chain product_op (unary l i) b

unfoldable pub sum : Limits → Inner → ℕ → Reader Symbol Tree
sum l i b = chain sum_op (product l i) b

unfoldable pub comparison : Limits → Inner → ℕ → Reader Symbol Tree
comparison l i b = mapped compared (both (sum l i b) (λ a. perhaps (is comparison_op) (operand comparison_op (sum l i) b a)))

unfoldable pub negation : Limits → Inner → ℕ → Reader Symbol Tree
negation l i b = either (is (the t.Not)) (i.inversion b) (comparison l i b)

unfoldable pub conjunction : Limits → Inner → ℕ → Reader Symbol Tree
conjunction l i b = chain and_op (negation l i) b

unfoldable pub disjunction : Limits → Inner → ℕ → Reader Symbol Tree
disjunction l i b = chain or_op (conjunction l i) b

unfoldable pub inner : Limits → ℕ → Inner
inner l zero = record { group = λ _. refused (Limit 4); minus = λ _. refused (Limit 4); inversion = λ _. refused (Limit 4) }
inner l (suc n) = record {
  group = λ b. behind (the t.Open) (before (the t.Close) (disjunction l (inner l n) b));
  minus = λ b. behind (the t.Minus) (negated l (inner l n) b);
  inversion = spent (λ c. behind (the t.Not) (mapped s.not (negation l (inner l n) c)));
}

unfoldable pub expression : Limits → Reader Symbol Tree
expression l = disjunction l (inner l l.nesting) l.operations
