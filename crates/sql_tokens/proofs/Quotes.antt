-- A quoted text, byte by byte.
use Rattle.std.proofs.Common.{◌≡◌, ℕ, suc, ◌+◌, ◌<◌, ◌≤◌, ◌==◌, Bool, true, false, List, [], ◌∷◌, ◌++◌, length, take, drop, get_or, ltb, Option, Some, None, ◌⊎◌, inl, inr, refl, sym, ap, subst, ◌∙◌, arith, append_assoc}
use Rattle.std.proofs.lemmas.Bool.{ne_eqb}
use Rattle.std.proofs.lemmas.Bool.Decides.{nat_tests}
use Rattle.std.proofs.lemmas.List.{drop_more, drop_all, get_or_past, append-nil}
use Rattle.sql_tokens.specs.View.{content_of}
use Rattle.iv_types.specs.Tokens.{quoted, quoted_byte, text, symbol_of_quoted}
use Rattle.sql_tokens.specs.declared.token.TokenKind.TheVariants as kind
use Rattle.sql_tokens.specs.Scan.{measure_of, is_quote_at, spelled}

-- a quoted text's measure behind so much content, which takes so many bytes
abbrev pub measure_onto : ℕ → ℕ → Option (List ℕ × ℕ) → Option (ℕ × ℕ)
measure_onto long size None = None
measure_onto long size (Some x) = Some (long + length x.0, size + x.1)

-- content that goes on with a quoted text's
abbrev pub content_onto : List ℕ → Option (List ℕ × ℕ) → Option (List ℕ)
content_onto front None = None
content_onto front (Some x) = Some (front ++ x.0)

pub the_test : (b : Bool) → (b ≡ true) ⊎ (b ≡ false)
the_test true = inl refl
the_test false = inr refl

-- a byte that is no quote
pub quoted-plain : (b : ℕ) (bytes : List ℕ) → (b == 39) ≡ false → quoted (b ∷ bytes) ≡ quoted_byte b 1 (quoted bytes)
quoted-plain b [] h = rw h refl
quoted-plain b (c ∷ bytes) h = rw h refl

-- two quotes
pub quoted-two : (b c : ℕ) (bytes : List ℕ) → (b == 39) ≡ true → (c == 39) ≡ true → quoted (b ∷ c ∷ bytes) ≡ quoted_byte 39 2 (quoted bytes)
quoted-two b c bytes h k = rw (h, k) refl

-- a quote at the end
pub quoted-last : (b : ℕ) → (b == 39) ≡ true → quoted (b ∷ []) ≡ Some ([], 1)
quoted-last b h = rw h refl

-- a quote before another byte
pub quoted-close : (b c : ℕ) (bytes : List ℕ) → (b == 39) ≡ true → (c == 39) ≡ false → quoted (b ∷ c ∷ bytes) ≡ Some ([], 1)
quoted-close b c bytes h k = rw (h, k) refl

-- the same at a place of a text
pub plain_at : (bytes : List ℕ) (i : ℕ) → i < length bytes → (get_or bytes i 0 == 39) ≡ false → quoted (drop i bytes) ≡ quoted_byte (get_or bytes i 0) 1 (quoted (drop (i + 1) bytes))
plain_at bytes i lt h = ap quoted (drop_more bytes i 0 lt) ∙ quoted-plain (get_or bytes i 0) (drop (i + 1) bytes) h

-- a quote stands inside the text
pub quote_within : (bytes : List ℕ) (i : ℕ) → is_quote_at bytes i ≡ true → i < length bytes
quote_within bytes i h = elim (the_test (ltb i (length bytes))) [
  | inl less ↦ grind (arith, nat_tests)
  | inr not_less ↦ let past : length bytes ≤ i = grind (arith, nat_tests) in absurd (let e : (0 == 39) ≡ true = subst (λ (n : ℕ). (n == 39) ≡ true) (get_or_past bytes i 0 past) h in cc)
]

pub two_at : (bytes : List ℕ) (i : ℕ) → i < length bytes → (get_or bytes i 0 == 39) ≡ true → is_quote_at bytes (i + 1) ≡ true → quoted (drop i bytes) ≡ quoted_byte 39 2 (quoted (drop (i + 2) bytes))
two_at bytes i lt h k =
    let more : i + 1 < length bytes = quote_within bytes (i + 1) k in
    let next : drop (i + 1) bytes ≡ get_or bytes (i + 1) 0 ∷ drop (i + 2) bytes = drop_more bytes (i + 1) 0 more ∙ ap (λ (n : ℕ). get_or bytes (i + 1) 0 ∷ drop n bytes) (omega arith) in
    ap quoted (drop_more bytes i 0 lt ∙ ap (λ (l : List ℕ). get_or bytes i 0 ∷ l) next)
    ∙ quoted-two (get_or bytes i 0) (get_or bytes (i + 1) 0) (drop (i + 2) bytes) h k

pub close_at : (bytes : List ℕ) (i : ℕ) → i < length bytes → (get_or bytes i 0 == 39) ≡ true → is_quote_at bytes (i + 1) ≡ false → quoted (drop i bytes) ≡ Some ([], 1)
close_at bytes i lt h k = elim (the_test (ltb (i + 1) (length bytes))) [
  | inl less ↦
      let more : i + 1 < length bytes = grind (arith, nat_tests) in
      ap quoted (drop_more bytes i 0 lt ∙ ap (λ (l : List ℕ). get_or bytes i 0 ∷ l) (drop_more bytes (i + 1) 0 more))
      ∙ quoted-close (get_or bytes i 0) (get_or bytes (i + 1) 0) (drop (i + 1 + 1) bytes) h k
  | inr not_less ↦
      let past : length bytes ≤ i + 1 = grind (arith, nat_tests) in
      ap quoted (drop_more bytes i 0 lt ∙ ap (λ (l : List ℕ). get_or bytes i 0 ∷ l) (drop_all (i + 1) bytes past))
      ∙ quoted-last (get_or bytes i 0) h
]

-- one byte more of content
pub measure_more : (long size b k : ℕ) (q : Option (List ℕ × ℕ)) → measure_onto long size (quoted_byte b k q) ≡ measure_onto (long + 1) (size + k) q
measure_more long size b k None = refl
measure_more long size b k (Some x) =
    let e : long + length (b ∷ x.0) ≡ long + 1 + length x.0 = omega arith in
    let f : size + (k + x.1) ≡ size + k + x.1 = omega arith in
    ap (λ (p : ℕ × ℕ). Some p) (ap (λ (n : ℕ). (n, size + (k + x.1))) e ∙ ap (λ (n : ℕ). (long + 1 + length x.0, n)) f)

pub measure_start : (q : Option (List ℕ × ℕ)) → measure_onto 0 0 q ≡ measure_of q
measure_start None = refl
measure_start (Some x) =
    let e : 0 + length x.0 ≡ length x.0 = omega arith in
    let f : 0 + x.1 ≡ x.1 = omega arith in
    ap (λ (p : ℕ × ℕ). Some p) (ap (λ (n : ℕ). (n, 0 + x.1)) e ∙ ap (λ (n : ℕ). (length x.0, n)) f)

pub content_more : (front : List ℕ) (b k : ℕ) (q : Option (List ℕ × ℕ)) → content_onto front (quoted_byte b k q) ≡ content_onto (front ++ b ∷ []) q
content_more front b k None = refl
content_more front b k (Some x) = ap (λ (l : List ℕ). Some l) (sym (append_assoc front (b ∷ []) x.0))

pub is_39 : (b : ℕ) → b ≡ 39 → (b == 39) ≡ true
is_39 b e = ap (λ (n : ℕ). n == 39) e

pub content_is : (front : List ℕ) (q : Option (List ℕ × ℕ)) → Some front ≡ content_onto [] q → front ≡ content_of q
content_is front None h = absurd cc
content_is front (Some x) h = cc

-- The steps of the loops: over a byte that is no quote, and over two quotes.
pub measure_plain : (bytes : List ℕ) (long i next : ℕ) → i < length bytes → (get_or bytes i 0 ≡ 39 → ⊥) → next ≡ i + 1 → measure_onto (long + 1) next (quoted (drop next bytes)) ≡ measure_onto long i (quoted (drop i bytes))
measure_plain bytes long i next lt other is =
    ap (λ (n : ℕ). measure_onto (long + 1) n (quoted (drop n bytes))) is
    ∙ sym (measure_more long i (get_or bytes i 0) 1 (quoted (drop (i + 1) bytes)))
    ∙ ap (measure_onto long i) (sym (plain_at bytes i lt (ne_eqb (get_or bytes i 0) 39 other)))

pub measure_two : (bytes : List ℕ) (long i next : ℕ) → i < length bytes → get_or bytes i 0 ≡ 39 → is_quote_at bytes (i + 1) ≡ true → next ≡ i + 2 → measure_onto (long + 1) next (quoted (drop next bytes)) ≡ measure_onto long i (quoted (drop i bytes))
measure_two bytes long i next lt quote more is =
    ap (λ (n : ℕ). measure_onto (long + 1) n (quoted (drop n bytes))) is
    ∙ sym (measure_more long i 39 2 (quoted (drop (i + 2) bytes)))
    ∙ ap (measure_onto long i) (sym (two_at bytes i lt (is_39 (get_or bytes i 0) quote) more))

pub measure_close : (bytes : List ℕ) (long i : ℕ) → i < length bytes → get_or bytes i 0 ≡ 39 → is_quote_at bytes (i + 1) ≡ false → Some (long, i + 1) ≡ measure_onto long i (quoted (drop i bytes))
measure_close bytes long i lt quote more =
    ap (λ (n : ℕ). Some (n, i + 1)) (omega arith)
    ∙ ap (measure_onto long i) (sym (close_at bytes i lt (is_39 (get_or bytes i 0) quote) more))

pub content_plain : (bytes front behind : List ℕ) (i next : ℕ) → i < length bytes → (get_or bytes i 0 ≡ 39 → ⊥) → next ≡ i + 1 → behind ≡ front ++ get_or bytes i 0 ∷ [] → content_onto behind (quoted (drop next bytes)) ≡ content_onto front (quoted (drop i bytes))
content_plain bytes front behind i next lt other is pushed =
    ap (λ (n : ℕ). content_onto behind (quoted (drop n bytes))) is
    ∙ ap (λ (l : List ℕ). content_onto l (quoted (drop (i + 1) bytes))) pushed
    ∙ sym (content_more front (get_or bytes i 0) 1 (quoted (drop (i + 1) bytes)))
    ∙ ap (content_onto front) (sym (plain_at bytes i lt (ne_eqb (get_or bytes i 0) 39 other)))

pub content_two : (bytes front behind : List ℕ) (i next : ℕ) → i < length bytes → get_or bytes i 0 ≡ 39 → is_quote_at bytes (i + 1) ≡ true → next ≡ i + 2 → behind ≡ front ++ get_or bytes i 0 ∷ [] → content_onto behind (quoted (drop next bytes)) ≡ content_onto front (quoted (drop i bytes))
content_two bytes front behind i next lt quote more is pushed =
    ap (λ (n : ℕ). content_onto behind (quoted (drop n bytes))) is
    ∙ ap (λ (l : List ℕ). content_onto l (quoted (drop (i + 2) bytes))) (pushed ∙ ap (λ (b : ℕ). front ++ b ∷ []) quote)
    ∙ sym (content_more front 39 2 (quoted (drop (i + 2) bytes)))
    ∙ ap (content_onto front) (sym (two_at bytes i lt (is_39 (get_or bytes i 0) quote) more))

pub content_close : (bytes front : List ℕ) (i : ℕ) → i < length bytes → get_or bytes i 0 ≡ 39 → is_quote_at bytes (i + 1) ≡ false → content_onto front (quoted (drop i bytes)) ≡ content_onto [] (quoted bytes) → front ≡ content_of (quoted bytes)
content_close bytes front i lt quote more same =
    content_is front (quoted bytes) (ap (λ (l : List ℕ). Some l) (sym (append-nil front)) ∙ ap (content_onto front) (sym (close_at bytes i lt (is_39 (get_or bytes i 0) quote) more)) ∙ same)

-- what is found behind a byte of content is found with it
pub found_behind : (b k : ℕ) (q : Option (List ℕ × ℕ)) (x : List ℕ × ℕ) → quoted_byte b k q ≡ Some x → (y : List ℕ × ℕ) × (q ≡ Some y) × (x ≡ (b ∷ y.0, k + y.1))
found_behind b k None x h = absurd cc
found_behind b k (Some y) x h = let e : x ≡ (b ∷ y.0, k + y.1) = cc in (y, refl, e)

-- a quoted text alone is read as it is before others
pub quoted-take : (bytes : List ℕ) (x : List ℕ × ℕ) → quoted bytes ≡ Some x → quoted (take x.1 bytes) ≡ Some x
quoted-take [] x h = absurd cc
quoted-take (b ∷ []) x h = elim (the_test (b == 39)) [
  | inl quote ↦
      let e : x ≡ ([], 1) = let k = quoted-last b quote in cc in
      ap (λ (y : List ℕ × ℕ). quoted (take y.1 (b ∷ []))) e ∙ quoted-last b quote ∙ ap (λ (y : List ℕ × ℕ). Some y) (sym e)
  | inr other ↦ absurd (let k : quoted (b ∷ []) ≡ None = quoted-plain b [] other in cc)
]
quoted-take (b ∷ c ∷ bytes) x h = elim (the_test (b == 39)) [
  | inl quote ↦ elim (the_test (c == 39)) [
    | inl second ↦
        let found = found_behind 39 2 (quoted bytes) x (sym (quoted-two b c bytes quote second) ∙ h) in
        let size : x.1 ≡ suc (suc found.0.1) = omega (arith, ap (λ (y : List ℕ × ℕ). y.1) found.2) in
        ap (λ (n : ℕ). quoted (take n (b ∷ c ∷ bytes))) size
        ∙ quoted-two b c (take found.0.1 bytes) quote second
        ∙ ap (quoted_byte 39 2) (quoted-take bytes found.0 found.1)
        ∙ ap (λ (y : List ℕ × ℕ). Some y) (sym found.2)
    | inr other ↦
        let e : x ≡ ([], 1) = let k = quoted-close b c bytes quote other in cc in
        ap (λ (y : List ℕ × ℕ). quoted (take y.1 (b ∷ c ∷ bytes))) e ∙ quoted-last b quote ∙ ap (λ (y : List ℕ × ℕ). Some y) (sym e)
  ]
  | inr other ↦
      let found = found_behind b 1 (quoted (c ∷ bytes)) x (sym (quoted-plain b (c ∷ bytes) other) ∙ h) in
      let size : x.1 ≡ suc found.0.1 = omega (arith, ap (λ (y : List ℕ × ℕ). y.1) found.2) in
      ap (λ (n : ℕ). quoted (take n (b ∷ c ∷ bytes))) size
      ∙ quoted-plain b (take found.0.1 (c ∷ bytes)) other
      ∙ ap (quoted_byte b 1) (quoted-take (c ∷ bytes) found.0 found.1)
      ∙ ap (λ (y : List ℕ × ℕ). Some y) (sym found.2)
]

-- what was measured was found
pub found_measured : (q : Option (List ℕ × ℕ)) (long size : ℕ) → Some (long, size) ≡ measure_of q → (x : List ℕ × ℕ) × (q ≡ Some x) × (size ≡ x.1)
found_measured None long size h = absurd cc
found_measured (Some x) long size h =
    let both : (long, size) ≡ (length x.0, x.1) = cc in
    let e : size ≡ x.1 = ap (λ (y : ℕ × ℕ). y.1) both in
    (x, refl, e)

-- a text token spells its content
pub text_spelled : (bytes : List ℕ) (long size : ℕ) → 0 < length bytes → Some (long, size) ≡ measure_of (quoted (drop 1 bytes)) → spelled bytes (kind.Text, size + 1) ≡ symbol_of_quoted (quoted (drop 1 bytes))
text_spelled [] long size lt h = absurd (omega arith)
text_spelled (b ∷ bytes) long size lt h =
    let found = found_measured (quoted bytes) long size h in
    let x = found.0 in
    let next : size + 1 ≡ suc x.1 = omega (arith, found.2) in
    ap (λ (n : ℕ). spelled (b ∷ bytes) (kind.Text, n)) next
    ∙ ap (λ (q : Option (List ℕ × ℕ)). (text (content_of q), suc x.1)) (quoted-take bytes x found.1)
    ∙ ap symbol_of_quoted (sym found.1)
