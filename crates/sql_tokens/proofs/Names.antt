-- A name that was read is read again from its bytes in lower case.
use Rattle.std.proofs.Common.{◌≡◌, ℕ, zero, suc, ◌+◌, ◌≤◌, ◌==◌, Bool, true, false, List, [], ◌∷◌, ◌++◌, length, take, drop, Option, Some, None, inl, inr, refl, sym, ap, ◌∙◌, arith}
use Rattle.std.proofs.lemmas.Bool.Decides.{nat_tests}
use Rattle.std.proofs.lemmas.Str.Ascii.{lowercase-lowercase}
use Rattle.std.specs.Char.{is_ascii_digit, to_ascii_lowercase}
use Rattle.std.specs.List.{prefix_len, list_all, AllByRecursion}
use Rattle.std.specs.Str.{str_to_ascii_lowercase, str_eq_ignore_ascii_case, bytes_eq}
use Rattle.iv_types.specs.declared.terminal.Terminal.{Terminal}
use Rattle.iv_types.specs.Terminals.{spelling, keywords}
use Rattle.iv_types.specs.Tokens.{Symbol, fixed, name, unread, Placed, is_blank, begins_name, is_in_name, run_of, keyword_among, quoted, symbol_of_quoted, symbol_of_mark, mark_of, mark_of_two, mark, first_token, begins_comment, before_others, tokens_from}
use Rattle.sql_tokens.specs.Printing.{goes_on_with, IsName}
use Rattle.sql_tokens.proofs.Quotes.{the_test}
use Rattle.sql_tokens.proofs.Steps.{begins_in_name, first_name, first_number, first_quote, first_mark}
use Rattle.sql_tokens.proofs.Printing.{word_before, word_is_name, and_parts}

lower_lower : (w : List ℕ) → str_to_ascii_lowercase (str_to_ascii_lowercase w) ≡ str_to_ascii_lowercase w
lower_lower [] = refl
lower_lower (b ∷ w) = let first = lowercase-lowercase b in let rest = lower_lower w in cc

-- case tells no keywords apart
keyword_of_lower : (ks : List Terminal) (w : List ℕ) → keyword_among ks (str_to_ascii_lowercase w) ≡ keyword_among ks w
keyword_of_lower [] w = refl
keyword_of_lower (k ∷ ks) w =
    let same : str_eq_ignore_ascii_case (str_to_ascii_lowercase w) (spelling k) ≡ str_eq_ignore_ascii_case w (spelling k) = ap (λ (l : List ℕ). bytes_eq l (str_to_ascii_lowercase (spelling k))) (lower_lower w) in
    let rest = keyword_of_lower ks w in
    rw (same, rest) refl

lower_begins : (b : ℕ) → begins_name b ≡ true → begins_name (to_ascii_lowercase b) ≡ true
lower_begins b h = grind (arith, nat_tests)

lower_inside : (b : ℕ) → is_in_name b ≡ true → is_in_name (to_ascii_lowercase b) ≡ true
lower_inside b h = grind (arith, nat_tests)

lower_word : (w : List ℕ) → list_all is_in_name w ≡ true → list_all is_in_name (str_to_ascii_lowercase w) ≡ true
lower_word [] h = refl
lower_word (b ∷ w) h =
    let both = and_parts (is_in_name b) (list_all is_in_name w) h in
    rw (lower_inside b both.0) (lower_word w both.1)

-- a run passes its test
run_passes : (test : ℕ → Bool) (bytes : List ℕ) → list_all test (run_of test bytes) ≡ true
run_passes test [] = refl
run_passes test (b ∷ bytes) = elim (the_test (test b)) [
  | inl passes ↦
      let size : prefix_len test (b ∷ bytes) ≡ suc (prefix_len test bytes) = rw passes (omega arith) in
      ap (λ (n : ℕ). list_all test (take n (b ∷ bytes))) size ∙ rw passes (run_passes test bytes)
  | inr stops ↦
      let size : prefix_len test (b ∷ bytes) ≡ 0 = rw stops refl in
      ap (λ (n : ℕ). list_all test (take n (b ∷ bytes))) size
]

run_begins : (b : ℕ) (bytes : List ℕ) → begins_name b ≡ true → goes_on_with begins_name (str_to_ascii_lowercase (run_of is_in_name (b ∷ bytes))) ≡ true
run_begins b bytes h =
    let size : prefix_len is_in_name (b ∷ bytes) ≡ suc (prefix_len is_in_name bytes) = rw (begins_in_name b h) (omega arith) in
    ap (λ (n : ℕ). goes_on_with begins_name (str_to_ascii_lowercase (take n (b ∷ bytes)))) size ∙ lower_begins b h

named_word : (o : Option Terminal) (w v : List ℕ) → elim o as (λ (_ : Option Terminal). Symbol) [ Some k ↦ fixed k | None ↦ name (str_to_ascii_lowercase w) ] ≡ name v → (o ≡ None) × (v ≡ str_to_ascii_lowercase w)
named_word None w v h = let e : v ≡ str_to_ascii_lowercase w = cc in (refl, e)
named_word (Some k) w v h = absurd cc

quoted_no_name : (q : Option (List ℕ × ℕ)) (v : List ℕ) → (symbol_of_quoted q).0 ≡ name v → ⊥
quoted_no_name None v h = cc
quoted_no_name (Some x) v h = cc

short_no_name : (o : Option Terminal) (v : List ℕ) → symbol_of_mark o ≡ name v → ⊥
short_no_name None v h = cc
short_no_name (Some k) v h = cc

long_no_name : (long short : Option Terminal) (v : List ℕ) → (elim long as (λ (_ : Option Terminal). Symbol × ℕ) [ Some k ↦ (fixed k, 2) | None ↦ (symbol_of_mark short, 1) ]).0 ≡ name v → ⊥
long_no_name None short v h = short_no_name short v h
long_no_name (Some k) short v h = cc

mark_no_name : (b : ℕ) (bytes v : List ℕ) → (mark (b ∷ bytes)).0 ≡ name v → ⊥
mark_no_name b [] v h = short_no_name (mark_of b) v h
mark_no_name b (c ∷ bytes) v h = long_no_name (mark_of_two b c) (mark_of b) v h

pub first_is_name : (b : ℕ) (bytes v : List ℕ) → (first_token (b ∷ bytes)).0 ≡ name v → IsName v
first_is_name b bytes v h =
    let along : (x : Symbol × ℕ) → first_token (b ∷ bytes) ≡ x → x.0 ≡ name v = λ x is. sym (ap (λ (y : Symbol × ℕ). y.0) is) ∙ h in
    let w = run_of is_in_name (b ∷ bytes) in
    elim (the_test (begins_name b)) [
      | inl begins ↦
          let found = named_word (keyword_among keywords w) w v (along _ (first_name b bytes begins)) in
          record {
            begins = ap (goes_on_with begins_name) found.1 ∙ run_begins b bytes begins;
            inside = ap (list_all is_in_name) found.1 ∙ lower_word w (run_passes is_in_name (b ∷ bytes));
            no_keyword = ap (keyword_among keywords) found.1 ∙ keyword_of_lower keywords w ∙ found.0;
            lower = ap str_to_ascii_lowercase found.1 ∙ lower_lower w ∙ sym found.1;
          }
      | inr no_name ↦ absurd (elim (the_test (is_ascii_digit b)) [
        | inl digit ↦ let e = along _ (first_number b bytes no_name digit) in cc
        | inr no_digit ↦ elim (the_test (b == 39)) [
          | inl quote ↦ quoted_no_name (quoted bytes) v (along _ (first_quote b bytes no_name no_digit quote))
          | inr other ↦ mark_no_name b bytes v (along _ (first_mark b bytes no_name no_digit other))
        ]
      ])
    ]

-- where a token is a name, it is one as it can be printed
abbrev pub IsNamed : Placed → Type 0
IsNamed p = (w : List ℕ) → p.symbol ≡ name w → IsName w

before_named : (place : ℕ) (s : Symbol) (others : List Placed) → ((w : List ℕ) → s ≡ name w → IsName w) → AllByRecursion IsNamed others → AllByRecursion IsNamed (before_others place s others)
before_named place unread others h all = (h, tt)
before_named place _ others h all = (h, all)

pub tokens_named : (n place : ℕ) (bytes : List ℕ) → AllByRecursion IsNamed (tokens_from n place bytes)
unfolding tokens_from
tokens_named zero place bytes = tt
tokens_named (suc n) place [] = tt
tokens_named (suc n) place (b ∷ bytes) = elim (the_test (is_blank b)) [
  | inl blank ↦ rw blank (tokens_named n (suc place) bytes)
  | inr other ↦ elim (the_test (begins_comment (b ∷ bytes))) [
    | inl comment ↦ rw (other, comment) tt
    | inr no_comment ↦
        let size = (first_token (b ∷ bytes)).1 in
        rw (other, no_comment) (before_named place (first_token (b ∷ bytes)).0 (tokens_from n (place + size) (drop size (b ∷ bytes))) (first_is_name b bytes) (tokens_named n (place + size) (drop size (b ∷ bytes))))
  ]
]

-- A name, which no byte of a name follows.
pub name_before : (n m place : ℕ) (w more : List ℕ) → IsName w → goes_on_with is_in_name more ≡ false → length (w ++ more) ≤ n → length more ≤ m → tokens_from n place (w ++ more) ≡ record { symbol = name w; place = place } ∷ tokens_from m (place + length w) more
name_before n m place [] more is ends h k = absurd (let e = is.begins in cc)
name_before n m place (b ∷ w) more is ends h k =
    word_before n m place b w more is.begins (and_parts (is_in_name b) (list_all is_in_name w) is.inside).1 ends h k
    ∙ ap (λ (s : Symbol). record { symbol = s; place = place } ∷ tokens_from m (place + length (b ∷ w)) more) (word_is_name (b ∷ w) is.no_keyword is.lower)
