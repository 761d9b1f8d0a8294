-- What holds of every text's tokens.
use Rattle.std.proofs.Common.{◌≡◌, ℕ, zero, suc, ◌+◌, ◌==◌, List, [], ◌∷◌, drop, Option, Some, None, inl, inr, ap, sym, ◌∙◌}
use Rattle.std.specs.List.{AllByRecursion}
use Rattle.std.specs.Char.{is_ascii_digit}
use Rattle.std.specs.Str.{str_to_ascii_lowercase}
use Rattle.iv_types.specs.declared.terminal.Terminal.{Terminal}
use Rattle.iv_types.specs.Terminals.{keywords}
use Rattle.iv_types.specs.Tokens.{Symbol, fixed, name, unread, hole, Placed, is_blank, begins_name, is_in_name, run_of, keyword_among, quoted, symbol_of_quoted, symbol_of_mark, mark_of, mark_of_two, mark, first_token, begins_comment, before_others, tokens_from}
use Rattle.sql_tokens.proofs.Quotes.{the_test}
use Rattle.sql_tokens.proofs.Steps.{first_name, first_number, first_quote, first_mark}
use Rattle.sql_tokens.specs.declared.token.TokenKind.{TokenKind}
use Rattle.sql_tokens.specs.declared.token.TokenKind.TheVariants as kind
use Rattle.sql_tokens.specs.declared.token.Token.{Token}
use Rattle.sql_tokens.specs.View.{symbol_of, symbol_at, symbols_at}

-- a token that has been read
abbrev pub NoHole : Placed → Type 0
NoHole p = p.symbol ≡ hole → ⊥

kind_no_hole : (k : TokenKind) (bytes : List ℕ) → symbol_of k bytes ≡ hole → ⊥
kind_no_hole (kind.Fixed t) bytes h = cc
kind_no_hole kind.Name bytes h = cc
kind_no_hole kind.Number bytes h = cc
kind_no_hole kind.Text bytes h = cc
kind_no_hole kind.Unread bytes h = cc

-- no token of a text stands for what is yet to come
pub no_hole : (whole : List ℕ) (token : Token) → symbol_at whole token ≡ hole → ⊥
no_hole whole token h = kind_no_hole token.kind _ h

pub no_holes : (whole : List ℕ) (ts : List Token) → AllByRecursion (λ (s : Symbol). s ≡ hole → ⊥) (symbols_at whole ts)
no_holes whole [] = tt
no_holes whole (token ∷ ts) = (no_hole whole token, no_holes whole ts)

word_no_hole : (o : Option Terminal) (w : List ℕ) → elim o as (λ (_ : Option Terminal). Symbol) [ Some k ↦ fixed k | None ↦ name (str_to_ascii_lowercase w) ] ≡ hole → ⊥
word_no_hole None w h = cc
word_no_hole (Some k) w h = cc

quoted_no_hole : (q : Option (List ℕ × ℕ)) → (symbol_of_quoted q).0 ≡ hole → ⊥
quoted_no_hole None h = cc
quoted_no_hole (Some x) h = cc

short_no_hole : (o : Option Terminal) → symbol_of_mark o ≡ hole → ⊥
short_no_hole None h = cc
short_no_hole (Some k) h = cc

long_no_hole : (long short : Option Terminal) → (elim long as (λ (_ : Option Terminal). Symbol × ℕ) [ Some k ↦ (fixed k, 2) | None ↦ (symbol_of_mark short, 1) ]).0 ≡ hole → ⊥
long_no_hole None short h = short_no_hole short h
long_no_hole (Some k) short h = cc

mark_no_hole : (b : ℕ) (bytes : List ℕ) → (mark (b ∷ bytes)).0 ≡ hole → ⊥
mark_no_hole b [] h = short_no_hole (mark_of b) h
mark_no_hole b (c ∷ bytes) h = long_no_hole (mark_of_two b c) (mark_of b) h

pub first_no_hole : (b : ℕ) (bytes : List ℕ) → (first_token (b ∷ bytes)).0 ≡ hole → ⊥
first_no_hole b bytes h =
    let along : (x : Symbol × ℕ) → first_token (b ∷ bytes) ≡ x → x.0 ≡ hole = λ x is. sym (ap (λ (y : Symbol × ℕ). y.0) is) ∙ h in
    elim (the_test (begins_name b)) [
      | inl begins ↦ word_no_hole (keyword_among keywords (run_of is_in_name (b ∷ bytes))) (run_of is_in_name (b ∷ bytes)) (along _ (first_name b bytes begins))
      | inr no_name ↦ elim (the_test (is_ascii_digit b)) [
        | inl digit ↦ let e = along _ (first_number b bytes no_name digit) in cc
        | inr no_digit ↦ elim (the_test (b == 39)) [
          | inl quote ↦ quoted_no_hole (quoted bytes) (along _ (first_quote b bytes no_name no_digit quote))
          | inr other ↦ mark_no_hole b bytes (along _ (first_mark b bytes no_name no_digit other))
        ]
      ]
    ]

-- a token before others, where neither is a hole
before_no_hole : (place : ℕ) (s : Symbol) (others : List Placed) → (s ≡ hole → ⊥) → AllByRecursion NoHole others → AllByRecursion NoHole (before_others place s others)
before_no_hole place unread others h all = (h, tt)
before_no_hole place _ others h all = (h, all)

-- no token of a text stands for what is yet to come, by the definition of tokens
pub tokens_no_hole : (n place : ℕ) (bytes : List ℕ) → AllByRecursion NoHole (tokens_from n place bytes)
unfolding tokens_from
tokens_no_hole zero place bytes = tt
tokens_no_hole (suc n) place [] = tt
tokens_no_hole (suc n) place (b ∷ bytes) = elim (the_test (is_blank b)) [
  | inl blank ↦ rw blank (tokens_no_hole n (suc place) bytes)
  | inr other ↦ elim (the_test (begins_comment (b ∷ bytes))) [
    | inl comment ↦ rw (other, comment) tt
    | inr no_comment ↦
        let size = (first_token (b ∷ bytes)).1 in
        rw (other, no_comment) (before_no_hole place (first_token (b ∷ bytes)).0 (tokens_from n (place + size) (drop size (b ∷ bytes))) (first_no_hole b bytes) (tokens_no_hole n (place + size) (drop size (b ∷ bytes))))
  ]
]
