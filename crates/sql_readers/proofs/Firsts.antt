-- What the first token of a text shows.
use Rattle.std.proofs.Common.{◌≡◌, ℕ, ◌≤◌, Bool, true, false, cond, List, [], ◌∷◌, length, Some, None, refl, sym, ap, ◌∙◌, arith, slice_index_or}
use Rattle.std.specs.Prelude.{is_some}
use Rattle.text_grammar.specs.Readers.{is, starts}
use Rattle.iv_types.specs.declared.terminal.Terminal.{Terminal}
use Rattle.iv_types.specs.Terminals.{same}
use Rattle.iv_types.specs.Expressions.{the}
use Rattle.sql_tokens.specs.View.{piece, symbol_of, symbols_at}
use Rattle.sql_tokens.specs.declared.token.TokenKind.{TokenKind}
use Rattle.sql_tokens.specs.declared.token.TokenKind.TheVariants as kind
use Rattle.sql_tokens.specs.declared.token.Token.{Token}

some_where : (b : Bool) → b ≡ is_some (cond b (Some (tt {0})) None)
some_where true = refl
some_where false = refl

-- a keyword or mark comes first
pub fixed_first : (whole : List ℕ) (ts : List Token) (other : Token) (j k : Terminal) → 1 ≤ length ts → (slice_index_or ts 0 other).kind ≡ kind.Fixed j → same j k ≡ starts (is (the k)) (symbols_at whole ts)
fixed_first whole [] other j k le e = absurd (omega arith)
fixed_first whole (x ∷ ts) other j k le e = some_where (same j k) ∙ sym (ap (λ (z : TokenKind). is (the k) (symbol_of z (piece whole x))) e)
