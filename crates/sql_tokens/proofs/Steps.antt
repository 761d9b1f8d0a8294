-- The tokens of a text, step by step.
use Rattle.std.proofs.Common.{◌≡◌, ℕ, zero, suc, ◌+◌, ◌<◌, ◌≤◌, ◌==◌, Bool, true, false, List, [], ◌∷◌, length, drop, Option, Some, None, inl, inr, refl, sym, ap, subst, ◌∙◌, arith, length-drop}
use Rattle.std.proofs.lemmas.Bool.Decides.{nat_tests}
use Rattle.std.specs.Char.{is_ascii_digit}
use Rattle.std.specs.List.{prefix_len}
use Rattle.iv_types.specs.declared.terminal.Terminal.{Terminal}
use Rattle.iv_types.specs.Tokens.{Symbol, fixed, symbol_of_mark, mark_of, number, is_blank, begins_name, is_in_name, run_of, word_symbol, value_of, quoted, symbol_of_quoted, mark_of_two, mark, first_token, begins_comment, before_others, tokens_from}
use Rattle.sql_tokens.proofs.Quotes.{the_test}

-- a byte that begins a name may stand in one
pub begins_in_name : (b : ℕ) → begins_name b ≡ true → is_in_name b ≡ true
begins_in_name b h = grind (arith, nat_tests)

pub prefix_some : (test : ℕ → Bool) (b : ℕ) (bytes : List ℕ) → test b ≡ true → 0 < prefix_len test (b ∷ bytes)
prefix_some test b bytes h = rw h (omega arith)

-- the cases of the first token
pub first_name : (b : ℕ) (bytes : List ℕ) → begins_name b ≡ true → first_token (b ∷ bytes) ≡ (word_symbol (run_of is_in_name (b ∷ bytes)), prefix_len is_in_name (b ∷ bytes))
first_name b bytes h = rw h refl

pub first_number : (b : ℕ) (bytes : List ℕ) → begins_name b ≡ false → is_ascii_digit b ≡ true → first_token (b ∷ bytes) ≡ (number (value_of (run_of is_ascii_digit (b ∷ bytes))), prefix_len is_ascii_digit (b ∷ bytes))
first_number b bytes h k = rw (h, k) refl

pub first_quote : (b : ℕ) (bytes : List ℕ) → begins_name b ≡ false → is_ascii_digit b ≡ false → (b == 39) ≡ true → first_token (b ∷ bytes) ≡ symbol_of_quoted (quoted bytes)
first_quote b bytes h k l = rw (h, k, l) refl

pub first_mark : (b : ℕ) (bytes : List ℕ) → begins_name b ≡ false → is_ascii_digit b ≡ false → (b == 39) ≡ false → first_token (b ∷ bytes) ≡ mark (b ∷ bytes)
first_mark b bytes h k l = rw (h, k, l) refl

quoted_some : (q : Option (List ℕ × ℕ)) → 0 < (symbol_of_quoted q).1
quoted_some None = omega arith
quoted_some (Some x) = omega arith

long_some : (b c : ℕ) (o : Option Terminal) → 0 < (elim o as (λ (_ : Option Terminal). Symbol × ℕ) [ Some k ↦ (fixed k, 2) | None ↦ (symbol_of_mark (mark_of b), 1) ]).1
long_some b c None = omega arith
long_some b c (Some k) = omega arith

mark_some : (b : ℕ) (bytes : List ℕ) → 0 < (mark (b ∷ bytes)).1
mark_some b [] = omega arith
mark_some b (c ∷ bytes) = long_some b c (mark_of_two b c)

-- a token has a byte at least
pub first_some : (b : ℕ) (bytes : List ℕ) → 0 < (first_token (b ∷ bytes)).1
first_some b bytes =
    elim (the_test (begins_name b)) [
      | inl name ↦ subst (λ (x : Symbol × ℕ). 0 < x.1) (sym (first_name b bytes name)) (prefix_some is_in_name b bytes (begins_in_name b name))
      | inr no_name ↦ elim (the_test (is_ascii_digit b)) [
        | inl digit ↦ subst (λ (x : Symbol × ℕ). 0 < x.1) (sym (first_number b bytes no_name digit)) (prefix_some is_ascii_digit b bytes digit)
        | inr no_digit ↦ elim (the_test (b == 39)) [
          | inl quote ↦ subst (λ (x : Symbol × ℕ). 0 < x.1) (sym (first_quote b bytes no_name no_digit quote)) (quoted_some (quoted bytes))
          | inr other ↦ subst (λ (x : Symbol × ℕ). 0 < x.1) (sym (first_mark b bytes no_name no_digit other)) (mark_some b bytes)
        ]
      ]
    ]

-- what is left behind the first token is shorter
pub rest_shorter : (b : ℕ) (bytes : List ℕ) → length (drop (first_token (b ∷ bytes)).1 (b ∷ bytes)) ≤ length bytes
rest_shorter b bytes = omega (arith, first_some b bytes, length-drop (first_token (b ∷ bytes)).1 (b ∷ bytes))

-- one step at a time
from_blank : (n place b : ℕ) (bytes : List ℕ) → is_blank b ≡ true → tokens_from (suc n) place (b ∷ bytes) ≡ tokens_from n (suc place) bytes
unfolding tokens_from
from_blank n place b bytes h = rw h refl

from_comment : (n place b : ℕ) (bytes : List ℕ) → is_blank b ≡ false → begins_comment (b ∷ bytes) ≡ true → tokens_from (suc n) place (b ∷ bytes) ≡ []
unfolding tokens_from
from_comment n place b bytes h k = rw (h, k) refl

from_token : (n place b : ℕ) (bytes : List ℕ) → is_blank b ≡ false → begins_comment (b ∷ bytes) ≡ false → tokens_from (suc n) place (b ∷ bytes) ≡ before_others place (first_token (b ∷ bytes)).0 (tokens_from n (place + (first_token (b ∷ bytes)).1) (drop (first_token (b ∷ bytes)).1 (b ∷ bytes)))
unfolding tokens_from
from_token n place b bytes h k = rw (h, k) refl

pub from_nothing : (n place : ℕ) → tokens_from n place [] ≡ []
unfolding tokens_from
from_nothing zero place = refl
from_nothing (suc n) place = refl

-- Any bound that is enough gives the same tokens.
pub tokens_enough : (n m place : ℕ) (bytes : List ℕ) → length bytes ≤ n → length bytes ≤ m → tokens_from n place bytes ≡ tokens_from m place bytes
tokens_enough n m place [] h k = from_nothing n place ∙ sym (from_nothing m place)
tokens_enough zero m place (b ∷ bytes) h k = absurd (omega arith)
tokens_enough (suc n) zero place (b ∷ bytes) h k = absurd (omega arith)
tokens_enough (suc n) (suc m) place (b ∷ bytes) h k =
    elim (the_test (is_blank b)) [
      | inl blank ↦ from_blank n place b bytes blank ∙ tokens_enough n m (suc place) bytes (omega arith) (omega arith) ∙ sym (from_blank m place b bytes blank)
      | inr other ↦ elim (the_test (begins_comment (b ∷ bytes))) [
        | inl comment ↦ from_comment n place b bytes other comment ∙ sym (from_comment m place b bytes other comment)
        | inr no_comment ↦
            let size = (first_token (b ∷ bytes)).1 in
            let less : length (drop size (b ∷ bytes)) ≤ length bytes = rest_shorter b bytes in
            from_token n place b bytes other no_comment
            ∙ ap (before_others place (first_token (b ∷ bytes)).0) (tokens_enough n m (place + size) (drop size (b ∷ bytes)) (omega arith) (omega arith))
            ∙ sym (from_token m place b bytes other no_comment)
      ]
    ]

-- The tokens before a blank, a comment and a token, with any bounds that are enough.
pub before_blank : (n m place b : ℕ) (bytes : List ℕ) → is_blank b ≡ true → length (b ∷ bytes) ≤ n → length bytes ≤ m → tokens_from n place (b ∷ bytes) ≡ tokens_from m (place + 1) bytes
before_blank n m place b bytes blank h k =
    tokens_enough n (suc m) place (b ∷ bytes) h (omega arith)
    ∙ from_blank m place b bytes blank
    ∙ ap (λ (p : ℕ). tokens_from m p bytes) (omega arith)

pub before_comment : (n place b : ℕ) (bytes : List ℕ) → is_blank b ≡ false → begins_comment (b ∷ bytes) ≡ true → length (b ∷ bytes) ≤ n → tokens_from n place (b ∷ bytes) ≡ []
before_comment n place b bytes other comment h =
    tokens_enough n (suc n) place (b ∷ bytes) h (omega arith) ∙ from_comment n place b bytes other comment

pub before_token : (n m place b : ℕ) (bytes : List ℕ) (symbol : Symbol) (size : ℕ) → is_blank b ≡ false → begins_comment (b ∷ bytes) ≡ false → first_token (b ∷ bytes) ≡ (symbol, size) → length (b ∷ bytes) ≤ n → length (drop size (b ∷ bytes)) ≤ m → tokens_from n place (b ∷ bytes) ≡ before_others place symbol (tokens_from m (place + size) (drop size (b ∷ bytes)))
before_token n m place b bytes symbol size other no_comment is h k =
    tokens_enough n (suc n) place (b ∷ bytes) h (omega arith)
    ∙ from_token n place b bytes other no_comment
    ∙ ap (λ (x : Symbol × ℕ). before_others place x.0 (tokens_from n (place + x.1) (drop x.1 (b ∷ bytes)))) is
    ∙ ap (before_others place symbol) (tokens_enough n m (place + size) (drop size (b ∷ bytes)) (omega (arith, length-drop size (b ∷ bytes))) k)
