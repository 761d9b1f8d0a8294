-- The symbols of a text are names as they can be printed, numbers, texts, keywords and marks.
use Rattle.std.proofs.Common.{◌≡◌, ℕ, List, [], ◌∷◌, refl}
use Rattle.std.specs.List.{AllByRecursion}
use Rattle.iv_types.specs.Tokens.{Symbol, name, hole, Placed, tokens, symbols}
use Rattle.sql_tokens.specs.Printing.{IsName}
use Rattle.sql_tokens.proofs.Laws.{NoHole, tokens_no_hole}
use Rattle.sql_tokens.proofs.Names.{IsNamed, tokens_named}
use Rattle.sql_print.proofs.Facts.{AllReal, Real}

real_symbol : (s : Symbol) → (s ≡ hole → ⊥) → ((w : List ℕ) → s ≡ name w → IsName w) → Real IsName s
real_symbol hole h named = h refl
real_symbol (name w) h named = named w refl
real_symbol _ h named = tt

all_real : (ts : List Placed) → AllByRecursion NoHole ts → AllByRecursion IsNamed ts → AllReal IsName (symbols ts)
all_real [] h named = tt
all_real (t ∷ ts) h named = (real_symbol t.symbol h.0 named.0, all_real ts h.1 named.1)

pub text_real : (bytes : List ℕ) → AllReal IsName (symbols (tokens bytes))
text_real bytes = all_real (tokens bytes) (tokens_no_hole _ 0 bytes) (tokens_named _ 0 bytes)
