-- No clause of `run` rests on this module: it serves contracts between crates.
--
-- What is printed of a statement of a text is a text of that same statement.
use Rattle.std.specs.Prelude.{ℕ, List}
use Rattle.iv_types.specs.Syntax.{StatementTree}
use Rattle.iv_types.specs.Grammar.{Spells}
use Rattle.iv_types.specs.Printing.{statement_text}

abbrev pub PrintedAgain : Type 0
PrintedAgain = (text : List ℕ) (s : StatementTree) → Spells text s → Spells (statement_text s) s
