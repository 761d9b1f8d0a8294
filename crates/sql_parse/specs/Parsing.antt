-- No clause of `run` rests on this module: it serves contracts between crates.
--
-- What the parser answers.
use Rattle.std.specs.Prelude.{◌≡◌, ℕ, List, Result, Ok, Err}
use Rattle.text_grammar.specs.declared.fault.Cause.TheVariants as cause
use Rattle.text_grammar.specs.declared.fault.Cause.{Cause}
use Rattle.text_grammar.specs.declared.fault.Fault.{Fault}
use Rattle.iv_types.specs.declared.statement.Statement.{Statement}
use Rattle.iv_types.specs.declared.refusal.Refusal.{Refusal}
use Rattle.iv_types.specs.declared.refusal.Refusal.TheVariants as refusal
use Rattle.iv_types.specs.Syntax.{StatementTree}
use Rattle.iv_types.specs.Trees.{statement_tree}
use Rattle.iv_types.specs.Tokens.{Placed, place_of_last}
use Rattle.iv_types.specs.Limits.{limit_of}

-- this statement, unless memory was wanting
abbrev pub Answers : StatementTree → Result Statement Refusal → Type 0
Answers s (Ok statement) = statement_tree statement ≡ s
Answers s (Err r) = r ≡ refusal.NoMemory

-- a syntax fault with its place, a limit by its number
abbrev pub refusal_by : Cause → ℕ → List Placed → ℕ → Refusal
refusal_by cause.Syntax left ts end = refusal.Syntax (place_of_last left ts end)
refusal_by (cause.Limit which) left ts end = refusal.Limit (limit_of which)

abbrev pub refusal_of : Fault → List Placed → ℕ → Refusal
refusal_of fault ts end = refusal_by fault.cause fault.left ts end
