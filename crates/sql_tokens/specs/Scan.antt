-- No clause of `run` rests on this module: it serves contracts between crates.
--
-- What the functions that walk a text find.
use Rattle.std.specs.Prelude.{ℕ, List, length, take, Option, Some, None, Bool, get_or, ◌==◌}
use Rattle.iv_types.specs.Tokens.{Symbol}
use Rattle.sql_tokens.specs.View.{symbol_of}
use Rattle.sql_tokens.specs.declared.token.TokenKind.{TokenKind}

-- how long a quoted text's content is, and how many bytes it takes
abbrev pub measure_of : Option (List ℕ × ℕ) → Option (ℕ × ℕ)
measure_of None = None
measure_of (Some x) = Some (length x.0, x.1)

-- what so many first bytes of a kind spell, and how many they are
abbrev pub spelled : List ℕ → TokenKind × ℕ → Symbol × ℕ
spelled bytes found = (symbol_of found.0 (take found.1 bytes), found.1)

-- whether a quote stands at a place
abbrev pub is_quote_at : List ℕ → ℕ → Bool
is_quote_at bytes at = get_or bytes at 0 == 39
