-- No clause of `run` rests on this module: it serves contracts between crates.
--
-- What is passed.
use Rattle.std.specs.Prelude.{◌≡◌, ◌==◌, ◌&&◌, true, List, ◌∷◌, map, if◌then◌else◌}
use Rattle.text_grammar.specs.declared.fault.ParseError.{ParseError}
use Rattle.text_grammar.specs.declared.fault.ParseError.TheVariants as errors
use Rattle.text_grammar.specs.Readers.{is, goes_first}
use Rattle.iv_types.specs.declared.terminal.Terminal.{Terminal}
use Rattle.iv_types.specs.declared.statement.Relation.{Relation}
use Rattle.iv_types.specs.declared.statement.Join.{Join}
use Rattle.iv_types.specs.Tokens.{Symbol}
use Rattle.iv_types.specs.Trees.{join_tree}
use Rattle.iv_types.specs.Grammar.{Sources}
use Rattle.iv_types.specs.Expressions.{the}

-- a keyword or mark came first, and the others are left
abbrev pub Passed : Terminal → List Symbol → List Symbol → Type 0
Passed k before now = (x : Symbol) × (before ≡ x ∷ now) × (is (the k) x ≡ true)

-- of a fault and a limit, the fault where it stands at the limit's token and goes first
abbrev pub first_of : ParseError → ParseError → ParseError
first_of (errors.Fault fault) (errors.Fault limit) = if (fault.left == limit.left) && goes_first fault.cause limit.cause then errors.Fault fault else errors.Fault limit
first_of _ _ = errors.Memory

-- the relations of FROM
abbrev pub sources : Relation × List Join → Sources
sources x = (x.0, map join_tree x.1)
