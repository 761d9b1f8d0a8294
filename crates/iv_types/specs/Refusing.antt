-- What a text that is no statement is refused for.
use Rattle.std.specs.Prelude.{◌≡◌, ℕ, List, length}
use Rattle.text_grammar.specs.declared.fault.Cause.{Cause}
use Rattle.text_grammar.specs.declared.fault.Cause.TheVariants as cause
use Rattle.text_grammar.specs.Places.{FirstFault}
use Rattle.iv_types.specs.declared.refusal.Refusal.{Refusal}
use Rattle.iv_types.specs.declared.refusal.Refusal.TheVariants as refusal
use Rattle.iv_types.specs.Tokens.{tokens, symbols, place_of_last}
use Rattle.iv_types.specs.Limits.{Agree, the_limits, limit_of}
use Rattle.iv_types.specs.Syntax.{StatementTree}
use Rattle.iv_types.specs.Grammar.{ALine, Spells}

-- The text goes wrong first where so many of its tokens are left, for this cause: what stands before begins a statement,
-- and with the next token, or where none is left, it does not.
abbrev pub GoesWrong : List ℕ → Cause → ℕ → Type 0
GoesWrong text cause left = FirstFault ALine Agree the_limits (symbols (tokens text)) (record { cause = cause; left = left })

-- A syntax fault is told with its place, and a limit that is passed by its number.
abbrev pub Refuses : List ℕ → Refusal → Type 0
Refuses text (refusal.Syntax place) = (left : ℕ) × GoesWrong text cause.Syntax left × (place ≡ place_of_last left (tokens text) (length text))
Refuses text (refusal.Limit limit) = (left : ℕ) × (which : ℕ) × GoesWrong text (cause.Limit which) left × (limit ≡ limit_of which)
Refuses text _ = ⊥

-- a text that is refused is that of no statement, and is refused for one cause at one place
abbrev pub OneRefusal : Type 0
OneRefusal =
    ((text : List ℕ) (r : Refusal) (s : StatementTree) → Refuses text r → Spells text s → ⊥)
    × ((text : List ℕ) (one other : Refusal) → Refuses text one → Refuses text other → one ≡ other)
