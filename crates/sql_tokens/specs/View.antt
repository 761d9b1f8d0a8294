-- No clause of `run` rests on this module: it serves contracts between crates.
--
-- What tokens of the code stand for.
use Rattle.std.specs.Prelude.{◌≡◌, ℕ, ◌+◌, ◌-◌, List, [], ◌∷◌, take, drop, map, Option, Some, None}
use Rattle.std.specs.Str.{str_to_ascii_lowercase}
use Rattle.iv_types.specs.Tokens.{Symbol, fixed, name, number, text, unread, Placed, value_of, quoted, first_token}
use Rattle.sql_tokens.specs.declared.token.TokenKind.{TokenKind}
use Rattle.sql_tokens.specs.declared.token.TokenKind.TheVariants as kind
use Rattle.sql_tokens.specs.declared.token.Token.{Token}

-- the bytes of a text from a token's start to its end, as far as the text goes
abbrev pub piece : List ℕ → Token → List ℕ
piece whole token = take (token.end - token.start) (drop token.start whole)

abbrev pub content_of : Option (List ℕ × ℕ) → List ℕ
content_of None = []
content_of (Some x) = x.0

-- the content of a quoted text, given with its quotes
abbrev pub content : List ℕ → List ℕ
content [] = []
content (b ∷ bytes) = content_of (quoted bytes)

-- the symbol that bytes of a kind spell
abbrev pub symbol_of : TokenKind → List ℕ → Symbol
symbol_of (kind.Fixed k) bytes = fixed k
symbol_of kind.Name bytes = name (str_to_ascii_lowercase bytes)
symbol_of kind.Number bytes = number (value_of bytes)
symbol_of kind.Text bytes = text (content bytes)
symbol_of kind.Unread bytes = unread

-- the symbol of a text's token
abbrev pub symbol_at : List ℕ → Token → Symbol
symbol_at whole token = symbol_of token.kind (piece whole token)

-- the same with its place
abbrev pub placed : List ℕ → Token → Placed
placed whole token = record { symbol = symbol_at whole token; place = token.start }

abbrev pub symbols_at : List ℕ → List Token → List Symbol
symbols_at whole ts = map (symbol_at whole) ts

-- a token ends where the token does that begins where it begins
abbrev pub Spans : List ℕ → Token → Type 0
Spans whole token = token.end ≡ token.start + (first_token (drop token.start whole)).1
