-- No clause of `run` rests on this module: it serves contracts between crates.
--
-- The rules of the grammar whose operators are read by one function.
use Rattle.std.specs.Prelude.{◌≡◌, ℕ, false, List, ◌∷◌, Option, Some, None}
use Rattle.text_grammar.specs.Readers.{Reader, starts, is}
use Rattle.iv_types.specs.declared.expression.Op.{Op}
use Rattle.iv_types.specs.Tokens.{Symbol}
use Rattle.iv_types.specs.Limits.{Limits}
use Rattle.iv_types.specs.Syntax.{Tree}
use Rattle.iv_types.specs.Expressions.{or_op, and_op, comparison_op, sum_op, product_op}
use Rattle.sql_readers.specs.declared.expressions.Level.{Level}
use Rattle.sql_readers.specs.declared.expressions.Level.TheVariants as level
use Rattle.sql_readers.specs.Ladder.{Inner, chain, unary, product, negation, conjunction}

abbrev pub pick_of : Level → Symbol → Option Op
pick_of level.Or = or_op
pick_of level.And = and_op
pick_of level.Comparison = comparison_op
pick_of level.Sum = sum_op
pick_of level.Product = product_op

-- the reader of the rule's operands, with so many operations left
abbrev pub operands : Limits → Inner → Level → ℕ → Reader Symbol Tree
operands l i level.Or = conjunction l i
operands l i level.And = negation l i
operands l i level.Comparison = λ b. chain sum_op (product l i) b
operands l i level.Sum = product l i
operands l i level.Product = unary l i

abbrev pub chain_at : Limits → Inner → Level → ℕ → Reader Symbol Tree
chain_at l i level b = chain (pick_of level) (operands l i level) b

-- the operator of the rule that comes next, or none does
abbrev pub Next : Level → Option Op → List Symbol → Type 0
Next level None symbols = starts (is (pick_of level)) symbols ≡ false
Next level (Some op) symbols = (x : Symbol) × (rest : List Symbol) × (symbols ≡ x ∷ rest) × (pick_of level x ≡ Some op)
