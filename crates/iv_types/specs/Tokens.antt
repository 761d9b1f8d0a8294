-- The tokens of a statement's text.
use Rattle.std.specs.Prelude.{ℕ, zero, suc, ◌+◌, ◌-◌, ◌*◌, ◌==◌, ◌&&◌, ◌||◌, Bool, false, List, [], ◌∷◌, length, take, drop, map, Option, Some, None, if◌then◌else◌}
use Rattle.std.specs.List.{prefix_len}
use Rattle.std.specs.Char.{is_ascii_alphabetic, is_ascii_alphanumeric, is_ascii_digit}
use Rattle.std.specs.Str.{str_to_ascii_lowercase, str_eq_ignore_ascii_case}
use Rattle.iv_types.specs.declared.terminal.Terminal.{Terminal}
use Rattle.iv_types.specs.declared.terminal.Terminal.TheVariants as t
use Rattle.iv_types.specs.Terminals.{spelling, keywords}

-- what a token is, without where it stands
pub data Symbol : Type 0 where
  -- a keyword or a mark
  fixed : Terminal → Symbol
  -- a name, in lower case
  name : List ℕ → Symbol
  number : ℕ → Symbol
  -- a text's content
  text : List ℕ → Symbol
  -- what cannot be read
  unread : Symbol
  -- No text has this symbol. It stands for a tuple, a relation or an item that is yet to come.
  hole : Symbol

-- a space or a tab
abbrev pub is_blank : ℕ → Bool
is_blank b = b == 32 || b == 9

-- a letter or `_`
abbrev pub begins_name : ℕ → Bool
begins_name b = is_ascii_alphabetic b || b == 95

abbrev pub is_in_name : ℕ → Bool
is_in_name b = is_ascii_alphanumeric b || b == 95

-- the bytes that a text begins with and that pass a test
abbrev pub run_of : (ℕ → Bool) → List ℕ → List ℕ
run_of test bytes = take (prefix_len test bytes) bytes

-- the keyword among these that a word is, in any case of letters
abbrev pub keyword_among : List Terminal → List ℕ → Option Terminal
keyword_among [] word = None
keyword_among (k ∷ ks) word = if str_eq_ignore_ascii_case word (spelling k) then Some k else keyword_among ks word

abbrev pub word_symbol : List ℕ → Symbol
word_symbol word = elim (keyword_among keywords word) [
  | Some k ↦ fixed k
  | None ↦ name (str_to_ascii_lowercase word)
]

-- the number that digits write, behind those that write n
abbrev pub value_onto : ℕ → List ℕ → ℕ
value_onto n [] = n
value_onto n (digit ∷ digits) = value_onto (n * 10 + (digit - 48)) digits

abbrev pub value_of : List ℕ → ℕ
value_of digits = value_onto 0 digits

-- a byte more at the front of a quoted text, which takes so many bytes
abbrev pub quoted_byte : ℕ → ℕ → Option (List ℕ × ℕ) → Option (List ℕ × ℕ)
quoted_byte b size None = None
quoted_byte b size (Some x) = Some (b ∷ x.0, size + x.1)

-- What stands behind an opening quote: the content up to the quote that closes it, two quotes standing for one, and how
-- many bytes that takes with the closing quote. None where no quote closes it.
abbrev pub quoted : List ℕ → Option (List ℕ × ℕ)
quoted [] = None
quoted (b ∷ []) = if b == 39 then Some ([], 1) else None
quoted (b ∷ c ∷ bytes) = if b == 39 then (if c == 39 then quoted_byte 39 2 (quoted bytes) else Some ([], 1)) else quoted_byte b 1 (quoted (c ∷ bytes))

-- a mark of one byte
abbrev pub mark_of : ℕ → Option Terminal
mark_of b =
    if b == 40 then Some t.Open else if b == 41 then Some t.Close else if b == 44 then Some t.Comma
    else if b == 46 then Some t.Point else if b == 59 then Some t.Semicolon else if b == 42 then Some t.Star
    else if b == 43 then Some t.Plus else if b == 45 then Some t.Minus else if b == 61 then Some t.Equal
    else if b == 60 then Some t.Less else if b == 62 then Some t.Greater else None

-- a mark of two bytes; `!=` means `<>`
abbrev pub mark_of_two : ℕ → ℕ → Option Terminal
mark_of_two b c =
    if b == 60 && c == 61 then Some t.AtMost else if b == 60 && c == 62 then Some t.NotEqual
    else if b == 62 && c == 61 then Some t.AtLeast else if b == 33 && c == 61 then Some t.NotEqual else None

abbrev pub symbol_of_mark : Option Terminal → Symbol
symbol_of_mark None = unread
symbol_of_mark (Some k) = fixed k

-- the longest mark that a text begins with, and its size
abbrev pub mark : List ℕ → Symbol × ℕ
mark [] = (unread, 0)
mark (b ∷ []) = (symbol_of_mark (mark_of b), 1)
mark (b ∷ c ∷ bytes) = elim (mark_of_two b c) [
  | Some k ↦ (fixed k, 2)
  | None ↦ (symbol_of_mark (mark_of b), 1)
]

-- a quoted text with its opening quote
abbrev pub symbol_of_quoted : Option (List ℕ × ℕ) → Symbol × ℕ
symbol_of_quoted None = (unread, 1)
symbol_of_quoted (Some x) = (text x.0, suc x.1)

-- the token that a text begins with, which begins with no blank, and its size
abbrev pub first_token : List ℕ → Symbol × ℕ
first_token [] = (unread, 0)
first_token (b ∷ bytes) =
    if begins_name b then (word_symbol (run_of is_in_name (b ∷ bytes)), prefix_len is_in_name (b ∷ bytes))
    else if is_ascii_digit b then (number (value_of (run_of is_ascii_digit (b ∷ bytes))), prefix_len is_ascii_digit (b ∷ bytes))
    else if b == 39 then symbol_of_quoted (quoted bytes)
    else mark (b ∷ bytes)

-- two minuses begin a comment, which reaches to the end of the text
abbrev pub begins_comment : List ℕ → Bool
begins_comment [] = false
begins_comment (b ∷ []) = false
begins_comment (b ∷ c ∷ bytes) = b == 45 && c == 45

-- a token and the place of its first byte, counted from 0
pub record Placed : Type 0 where
  pub symbol : Symbol
  pub place : ℕ

-- a token at a place before others; nothing is read behind what cannot be read
abbrev pub before_others : ℕ → Symbol → List Placed → List Placed
before_others place unread others = record { symbol = unread; place = place } ∷ []
before_others place symbol others = record { symbol = symbol; place = place } ∷ others

-- the tokens of what stands from a place on, of at most so many bytes
unfoldable pub tokens_from : ℕ → ℕ → List ℕ → List Placed
tokens_from zero place bytes = []
tokens_from (suc n) place [] = []
tokens_from (suc n) place (b ∷ bytes) =
    if is_blank b then tokens_from n (suc place) bytes
    else if begins_comment (b ∷ bytes) then []
    else before_others place (first_token (b ∷ bytes)).0 (tokens_from n (place + (first_token (b ∷ bytes)).1) (drop (first_token (b ∷ bytes)).1 (b ∷ bytes)))

abbrev pub tokens : List ℕ → List Placed
tokens bytes = tokens_from (length bytes) 0 bytes

-- the symbols of tokens
abbrev pub symbols : List Placed → List Symbol
symbols ts = map (λ (t : Placed). t.symbol) ts

-- where the last n of the tokens begin, which is the text's end where n is 0
abbrev pub place_of_last : ℕ → List Placed → ℕ → ℕ
place_of_last n [] end = end
place_of_last n (t ∷ ts) end = if n == length (t ∷ ts) then t.place else place_of_last n ts end
