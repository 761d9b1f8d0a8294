-- No text has a hole.
use Rattle.std.proofs.Common.{◌≡◌, ℕ, false, List, [], ◌∷◌, refl}
use Rattle.text_grammar.specs.Readers.{is, starts}
use Rattle.iv_types.specs.Tokens.{Symbol, hole}
use Rattle.iv_types.specs.Grammar.{the_hole}
use Rattle.sql_tokens.specs.View.{symbol_at, symbols_at}
use Rattle.sql_tokens.specs.declared.token.Token.{Token}
use Rattle.sql_tokens.proofs.Laws.{no_hole}

is_none : (x : Symbol) → (x ≡ hole → ⊥) → is the_hole x ≡ false
is_none hole h = absurd (h refl)
is_none _ h = refl

pub begins_with_none : (whole : List ℕ) (ts : List Token) → starts (is the_hole) (symbols_at whole ts) ≡ false
begins_with_none whole [] = refl
begins_with_none whole (t ∷ ts) = is_none (symbol_at whole t) (no_hole whole t)
