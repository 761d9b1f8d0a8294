-- No clause of `run` rests on this module: it serves contracts between crates.
--
-- Texts as they are printed: what may follow a token so that it is read alone.
use Rattle.std.specs.Prelude.{◌≡◌, ℕ, ◌==◌, ◌||◌, Bool, true, false, None, List, [], ◌∷◌, ◌++◌, if◌then◌else◌}
use Rattle.std.specs.List.{list_all}
use Rattle.std.specs.Str.{str_to_ascii_lowercase}
use Rattle.iv_types.specs.declared.terminal.Terminal.{Terminal}
use Rattle.iv_types.specs.declared.terminal.Terminal.TheVariants as t
use Rattle.iv_types.specs.Terminals.{keywords}
use Rattle.iv_types.specs.Tokens.{begins_name, is_in_name, keyword_among}

-- whether bytes begin with one that passes a test
abbrev pub goes_on_with : (ℕ → Bool) → List ℕ → Bool
goes_on_with test [] = false
goes_on_with test (b ∷ bytes) = test b

-- a word in lower case that is read as a name
pub record IsName (w : List ℕ) : Type 0 where
  pub begins : goes_on_with begins_name w ≡ true
  pub inside : list_all is_in_name w ≡ true
  pub no_keyword : keyword_among keywords w ≡ None
  pub lower : str_to_ascii_lowercase w ≡ w

-- a text's content with two quotes for one
abbrev pub doubled : List ℕ → List ℕ
doubled [] = []
doubled (b ∷ bytes) = if b == 39 then 39 ∷ 39 ∷ doubled bytes else b ∷ doubled bytes

-- a text's content between quotes
abbrev pub in_quotes : List ℕ → List ℕ
in_quotes content = 39 ∷ doubled content ++ 39 ∷ []

-- Whether a byte makes a longer token of a keyword or a mark that it follows, or a comment.
abbrev pub lengthens : Terminal → ℕ → Bool
lengthens t.Open b = false
lengthens t.Close b = false
lengthens t.Comma b = false
lengthens t.Point b = false
lengthens t.Semicolon b = false
lengthens t.Star b = false
lengthens t.Plus b = false
lengthens t.Minus b = b == 45
lengthens t.Equal b = false
lengthens t.NotEqual b = false
lengthens t.Less b = b == 61 || b == 62
lengthens t.AtMost b = false
lengthens t.Greater b = b == 61
lengthens t.AtLeast b = false
lengthens _ b = is_in_name b
