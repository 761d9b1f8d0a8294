-- The tokens of a text that begins with a blank or with one printed token: that token, and then those of what follows.
-- The bounds n and m are any that are enough.
use Rattle.std.proofs.Common.{◌≡◌, ℕ, suc, ◌+◌, ◌<◌, ◌≤◌, ◌==◌, ◌&&◌, ◌||◌, Bool, true, false, not, List, [], ◌∷◌, ◌++◌, length, take, drop, Option, Some, None, inl, inr, refl, sym, ap, subst, ◌∙◌, arith, length-append, append_assoc}
use Rattle.std.proofs.lemmas.Bool.Decides.{nat_tests, eqb_tells}
use Rattle.std.proofs.lemmas.List.{take_at, drop_at}
use Rattle.std.specs.Char.{is_ascii_digit}
use Rattle.std.specs.List.{prefix_len, list_all}
use Rattle.std.specs.Str.{str_to_ascii_lowercase}
use Rattle.iv_types.specs.declared.terminal.Terminal.{Terminal}
use Rattle.iv_types.specs.declared.terminal.Terminal.TheVariants as t
use Rattle.iv_types.specs.Terminals.{spelling, keywords}
use Rattle.iv_types.specs.Tokens.{Symbol, fixed, name, number, text, unread, Placed, is_blank, begins_name, is_in_name, keyword_among, word_symbol, value_of, quoted, quoted_byte, symbol_of_quoted, symbol_of_mark, mark_of, mark_of_two, mark, first_token, begins_comment, before_others, tokens_from}
use Rattle.sql_tokens.specs.Printing.{goes_on_with, doubled, in_quotes, lengthens}
use Rattle.sql_tokens.proofs.Quotes.{quoted-plain, quoted-two, quoted-last, quoted-close}
use Rattle.sql_tokens.proofs.Steps.{begins_in_name, first_name, first_number, first_quote, before_blank, before_token}

-- a blank
pub blank_before : (n m place : ℕ) (more : List ℕ) → length (32 ∷ more) ≤ n → length more ≤ m → tokens_from n place (32 ∷ more) ≡ tokens_from m (place + 1) more
blank_before n m place more h k = before_blank n m place 32 more refl h k

readable : (place : ℕ) (s : Symbol) (others : List Placed) → (s ≡ unread → ⊥) → before_others place s others ≡ record { symbol = s; place = place } ∷ others
readable place (fixed k) others h = refl
readable place (name w) others h = refl
readable place (number n) others h = refl
readable place (text w) others h = refl
readable place unread others h = absurd (h refl)
readable place _ others h = refl

-- whatever a text's first token is
pub token_before : (n m place : ℕ) (w more : List ℕ) (symbol : Symbol) → 0 < length w → goes_on_with is_blank w ≡ false → begins_comment (w ++ more) ≡ false → first_token (w ++ more) ≡ (symbol, length w) → (symbol ≡ unread → ⊥) → length (w ++ more) ≤ n → length more ≤ m → tokens_from n place (w ++ more) ≡ record { symbol = symbol; place = place } ∷ tokens_from m (place + length w) more
token_before n m place [] more symbol some blank comment is read h k = absurd (omega arith)
token_before n m place (b ∷ w) more symbol some blank comment is read h k =
    let rest : drop (length (b ∷ w)) (b ∷ w ++ more) ≡ more = drop_at (b ∷ w) more (length (b ∷ w)) refl in
    let enough : length (drop (length (b ∷ w)) (b ∷ w ++ more)) ≤ m = subst (λ (l : List ℕ). length l ≤ m) (sym rest) k in
    before_token n m place b (w ++ more) symbol (length (b ∷ w)) blank comment is h enough
    ∙ readable place symbol (tokens_from m (place + length (b ∷ w)) (drop (length (b ∷ w)) (b ∷ w ++ more))) read
    ∙ ap (λ (l : List ℕ). record { symbol = symbol; place = place } ∷ tokens_from m (place + length (b ∷ w)) l) rest

pub and_parts : (a b : Bool) → (a && b) ≡ true → (a ≡ true) × (b ≡ true)
and_parts true b h = (refl, h)
and_parts false b h = absurd cc

or_parts : (a b : Bool) → (a || b) ≡ false → (a ≡ false) × (b ≡ false)
or_parts false b h = (refl, h)
or_parts true b h = absurd cc

-- a run is as long as its bytes
prefix_all : (test : ℕ → Bool) (w more : List ℕ) → list_all test w ≡ true → goes_on_with test more ≡ false → prefix_len test (w ++ more) ≡ length w
prefix_all test [] [] h k = refl
prefix_all test [] (b ∷ more) h k = rw k refl
prefix_all test (b ∷ w) more h k =
    let both = and_parts (test b) (list_all test w) h in
    let rest = prefix_all test w more both.1 k in
    rw both.0 (omega arith)

not_comment : (b : ℕ) (bytes : List ℕ) → (b == 45) ≡ false → begins_comment (b ∷ bytes) ≡ false
not_comment b [] h = refl
not_comment b (c ∷ bytes) h = rw h refl

no_blank : (b : ℕ) → begins_name b ≡ true → is_blank b ≡ false
no_blank b h = grind (arith, nat_tests)

no_minus : (b : ℕ) → begins_name b ≡ true → (b == 45) ≡ false
no_minus b h = grind (arith, nat_tests)

readable_among : (o : Option Terminal) (w : List ℕ) → elim o as (λ (_ : Option Terminal). Symbol) [ Some k ↦ fixed k | None ↦ name (str_to_ascii_lowercase w) ] ≡ unread → ⊥
readable_among None w h = cc
readable_among (Some k) w h = cc

word_readable : (w : List ℕ) → word_symbol w ≡ unread → ⊥
word_readable w = readable_among (keyword_among keywords w) w

-- a word is read as it stands
pub word_first : (b : ℕ) (w more : List ℕ) → begins_name b ≡ true → list_all is_in_name w ≡ true → goes_on_with is_in_name more ≡ false → first_token (b ∷ w ++ more) ≡ (word_symbol (b ∷ w), length (b ∷ w))
word_first b w more begins all ends =
    let inside : list_all is_in_name (b ∷ w) ≡ true = rw (begins_in_name b begins) all in
    let size : prefix_len is_in_name (b ∷ w ++ more) ≡ length (b ∷ w) = prefix_all is_in_name (b ∷ w) more inside ends in
    first_name b (w ++ more) begins
    ∙ ap (λ (n : ℕ). (word_symbol (take n (b ∷ w ++ more)), n)) size
    ∙ ap (λ (l : List ℕ). (word_symbol l, length (b ∷ w))) (take_at (b ∷ w) more (length (b ∷ w)) refl)

-- A word: a letter or `_`, and letters, digits and `_`. No such byte follows it.
pub word_before : (n m place b : ℕ) (w more : List ℕ) → begins_name b ≡ true → list_all is_in_name w ≡ true → goes_on_with is_in_name more ≡ false → length (b ∷ w ++ more) ≤ n → length more ≤ m → tokens_from n place (b ∷ w ++ more) ≡ record { symbol = word_symbol (b ∷ w); place = place } ∷ tokens_from m (place + length (b ∷ w)) more
word_before n m place b w more begins all ends h k =
    token_before n m place (b ∷ w) more (word_symbol (b ∷ w)) (omega arith) (no_blank b begins) (not_comment b (w ++ more) (no_minus b begins)) (word_first b w more begins all ends) (word_readable (b ∷ w)) h k

named : (o : Option Terminal) (w : List ℕ) → o ≡ None → elim o as (λ (_ : Option Terminal). Symbol) [ Some k ↦ fixed k | None ↦ name (str_to_ascii_lowercase w) ] ≡ name (str_to_ascii_lowercase w)
named None w h = refl
named (Some k) w h = absurd cc

-- a word in lower case that is no keyword is a name
pub word_is_name : (w : List ℕ) → keyword_among keywords w ≡ None → str_to_ascii_lowercase w ≡ w → word_symbol w ≡ name w
word_is_name w h k = named (keyword_among keywords w) w h ∙ ap name k

digit_no_blank : (b : ℕ) → is_ascii_digit b ≡ true → is_blank b ≡ false
digit_no_blank b h = grind (arith, nat_tests)

pub digit_no_minus : (b : ℕ) → is_ascii_digit b ≡ true → (b == 45) ≡ false
digit_no_minus b h = grind (arith, nat_tests)

digit_no_name : (b : ℕ) → is_ascii_digit b ≡ true → begins_name b ≡ false
digit_no_name b h = grind (arith, nat_tests)

-- Digits, which no digit follows.
pub digits_before : (n m place b : ℕ) (w more : List ℕ) → list_all is_ascii_digit (b ∷ w) ≡ true → goes_on_with is_ascii_digit more ≡ false → length (b ∷ w ++ more) ≤ n → length more ≤ m → tokens_from n place (b ∷ w ++ more) ≡ record { symbol = number (value_of (b ∷ w)); place = place } ∷ tokens_from m (place + length (b ∷ w)) more
digits_before n m place b w more all ends h k =
    let digit : is_ascii_digit b ≡ true = (and_parts (is_ascii_digit b) (list_all is_ascii_digit w) all).0 in
    let size : prefix_len is_ascii_digit (b ∷ w ++ more) ≡ length (b ∷ w) = prefix_all is_ascii_digit (b ∷ w) more all ends in
    let first : first_token (b ∷ w ++ more) ≡ (number (value_of (b ∷ w)), length (b ∷ w)) =
    first_number b (w ++ more) (digit_no_name b digit) digit
    ∙ ap (λ (n : ℕ). (number (value_of (take n (b ∷ w ++ more))), n)) size
    ∙ ap (λ (l : List ℕ). (number (value_of l), length (b ∷ w))) (take_at (b ∷ w) more (length (b ∷ w)) refl) in
    token_before n m place (b ∷ w) more (number (value_of (b ∷ w))) (omega arith) (digit_no_blank b digit) (not_comment b (w ++ more) (digit_no_minus b digit)) first (λ e. cc) h k

-- what was doubled is read as it was
pub quoted-doubled : (content more : List ℕ) → goes_on_with (λ (b : ℕ). b == 39) more ≡ false → quoted (doubled content ++ 39 ∷ more) ≡ Some (content, suc (length (doubled content)))
quoted-doubled [] [] h = quoted-last 39 refl
quoted-doubled [] (c ∷ more) h = quoted-close 39 c more refl h
quoted-doubled (b ∷ content) more h =
    let rest = quoted-doubled content more h in
    let long = length (doubled content) in
    elim (eqb_tells b 39) [
      | inl same ↦
          let two : doubled (b ∷ content) ≡ 39 ∷ 39 ∷ doubled content = rw same.0 refl in
          let size : 2 + suc long ≡ suc (length (39 ∷ 39 ∷ doubled content)) = omega arith in
          ap (λ (l : List ℕ). quoted (l ++ 39 ∷ more)) two
          ∙ quoted-two 39 39 (doubled content ++ 39 ∷ more) refl refl
          ∙ ap (quoted_byte 39 2) rest
          ∙ ap (λ (c : ℕ). Some (c ∷ content, 2 + suc long)) (sym same.1)
          ∙ ap (λ (s : ℕ). Some (b ∷ content, s)) size
          ∙ ap (λ (l : List ℕ). Some (b ∷ content, suc (length l))) (sym two)
      | inr other ↦
          let one : doubled (b ∷ content) ≡ b ∷ doubled content = rw other.0 refl in
          let size : 1 + suc long ≡ suc (length (b ∷ doubled content)) = omega arith in
          ap (λ (l : List ℕ). quoted (l ++ 39 ∷ more)) one
          ∙ quoted-plain b (doubled content ++ 39 ∷ more) other.0
          ∙ ap (quoted_byte b 1) rest
          ∙ ap (λ (s : ℕ). Some (b ∷ content, s)) size
          ∙ ap (λ (l : List ℕ). Some (b ∷ content, suc (length l))) (sym one)
    ]

-- A quoted text, which no quote follows.
pub text_before : (n m place : ℕ) (content more : List ℕ) → goes_on_with (λ (b : ℕ). b == 39) more ≡ false → length (in_quotes content ++ more) ≤ n → length more ≤ m → tokens_from n place (in_quotes content ++ more) ≡ record { symbol = text content; place = place } ∷ tokens_from m (place + length (in_quotes content)) more
text_before n m place content more ends h k =
    let inner : doubled content ++ 39 ∷ [] ++ more ≡ doubled content ++ 39 ∷ more = append_assoc (doubled content) (39 ∷ []) more in
    let size : suc (suc (length (doubled content))) ≡ length (in_quotes content) = omega (arith, length-append (doubled content) (39 ∷ [])) in
    let first : first_token (in_quotes content ++ more) ≡ (text content, length (in_quotes content)) =
    first_quote 39 (doubled content ++ 39 ∷ [] ++ more) refl refl refl
    ∙ ap (λ (l : List ℕ). symbol_of_quoted (quoted l)) inner
    ∙ ap symbol_of_quoted (quoted-doubled content more ends)
    ∙ ap (λ (s : ℕ). (text content, s)) size in
    token_before n m place (in_quotes content) more (text content) (omega arith) refl (not_comment 39 (doubled content ++ 39 ∷ [] ++ more) refl) first (λ e. cc) h k

short_alone : (long short : Option Terminal) (k : Terminal) → long ≡ None → short ≡ Some k → elim long as (λ (_ : Option Terminal). Symbol × ℕ) [ Some j ↦ (fixed j, 2) | None ↦ (symbol_of_mark short, 1) ] ≡ (fixed k, 1)
short_alone None short k h l = rw l refl
short_alone (Some j) short k h l = absurd cc

mark_alone : (b : ℕ) (k : Terminal) (more : List ℕ) → mark_of b ≡ Some k → ((c : ℕ) → mark_of_two b c ≡ None) → mark (b ∷ more) ≡ (fixed k, 1)
mark_alone b k [] h alone = rw h refl
mark_alone b k (c ∷ more) h alone = short_alone (mark_of_two b c) (mark_of b) k (alone c) h

less_alone : (c : ℕ) → (c == 61 || c == 62) ≡ false → mark_of_two 60 c ≡ None
less_alone c h = let other = or_parts (c == 61) (c == 62) h in rw (other.0, other.1) refl

greater_alone : (c : ℕ) → (c == 61) ≡ false → mark_of_two 62 c ≡ None
greater_alone c h = rw h refl

keyword_first : (w more : List ℕ) (symbol : Symbol) → goes_on_with begins_name w ≡ true → list_all is_in_name w ≡ true → word_symbol w ≡ symbol → goes_on_with is_in_name more ≡ false → first_token (w ++ more) ≡ (symbol, length w)
keyword_first [] more symbol begins all is ends = absurd cc
keyword_first (b ∷ w) more symbol begins all is ends =
    word_first b w more begins (and_parts (is_in_name b) (list_all is_in_name w) all).1 ends ∙ ap (λ (s : Symbol). (s, length (b ∷ w))) is

-- a keyword or a mark is read as it stands
terminal_first : (k : Terminal) (more : List ℕ) → goes_on_with (lengthens k) more ≡ false → first_token (spelling k ++ more) ≡ (fixed k, length (spelling k))
terminal_first t.Open more h = mark_alone 40 t.Open more refl (λ c. refl)
terminal_first t.Close more h = mark_alone 41 t.Close more refl (λ c. refl)
terminal_first t.Comma more h = mark_alone 44 t.Comma more refl (λ c. refl)
terminal_first t.Point more h = mark_alone 46 t.Point more refl (λ c. refl)
terminal_first t.Semicolon more h = mark_alone 59 t.Semicolon more refl (λ c. refl)
terminal_first t.Star more h = mark_alone 42 t.Star more refl (λ c. refl)
terminal_first t.Plus more h = mark_alone 43 t.Plus more refl (λ c. refl)
terminal_first t.Minus more h = mark_alone 45 t.Minus more refl (λ c. refl)
terminal_first t.Equal more h = mark_alone 61 t.Equal more refl (λ c. refl)
terminal_first t.NotEqual more h = refl
terminal_first t.Less [] h = refl
terminal_first t.Less (c ∷ more) h = short_alone (mark_of_two 60 c) (Some t.Less) t.Less (less_alone c h) refl
terminal_first t.AtMost more h = refl
terminal_first t.Greater [] h = refl
terminal_first t.Greater (c ∷ more) h = short_alone (mark_of_two 62 c) (Some t.Greater) t.Greater (greater_alone c h) refl
terminal_first t.AtLeast more h = refl
terminal_first k more h = keyword_first (spelling k) more (fixed k) refl refl refl h

terminal_some : (k : Terminal) → 0 < length (spelling k)
terminal_some t.And = omega arith
terminal_some _ = omega arith

terminal_no_blank : (k : Terminal) → goes_on_with is_blank (spelling k) ≡ false
terminal_no_blank t.And = refl
terminal_no_blank _ = refl

plain_front : (w more : List ℕ) → goes_on_with (λ (b : ℕ). not (b == 45)) w ≡ true → begins_comment (w ++ more) ≡ false
plain_front [] more h = absurd cc
plain_front (b ∷ w) more h = elim (eqb_tells b 45) [
  | inl minus ↦ absurd (let e : not (b == 45) ≡ false = rw minus.0 refl in cc)
  | inr other ↦ not_comment b (w ++ more) other.0
]

terminal_no_comment : (k : Terminal) (more : List ℕ) → goes_on_with (lengthens k) more ≡ false → begins_comment (spelling k ++ more) ≡ false
terminal_no_comment t.Minus [] h = refl
terminal_no_comment t.Minus (c ∷ more) h = rw h refl
terminal_no_comment k more h = plain_front (spelling k) more refl

-- A keyword or a mark, which no byte follows that would make a longer token of it, or a comment.
pub terminal_before : (n m place : ℕ) (k : Terminal) (more : List ℕ) → goes_on_with (lengthens k) more ≡ false → length (spelling k ++ more) ≤ n → length more ≤ m → tokens_from n place (spelling k ++ more) ≡ record { symbol = fixed k; place = place } ∷ tokens_from m (place + length (spelling k)) more
terminal_before n m place k more ends h l =
    token_before n m place (spelling k) more (fixed k) (terminal_some k) (terminal_no_blank k) (terminal_no_comment k more ends) (terminal_first k more ends) (λ e. cc) h l

-- `!=`, which means `<>`
pub not_equal_before : (n m place : ℕ) (more : List ℕ) → length (33 ∷ 61 ∷ more) ≤ n → length more ≤ m → tokens_from n place (33 ∷ 61 ∷ more) ≡ record { symbol = fixed t.NotEqual; place = place } ∷ tokens_from m (place + 2) more
not_equal_before n m place more h k = token_before n m place (33 ∷ 61 ∷ []) more (fixed t.NotEqual) (omega arith) refl refl refl (λ e. cc) h k
