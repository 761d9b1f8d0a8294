-- A number at the front of a text: its digits end where no digit follows.
use Rattle.std.proofs.Common.{◌≡◌, ◌<◌, ◌+◌, ◌^◌, ℕ, suc, Bool, true, false, List, [], ◌∷◌, ◌++◌, length, take, drop, get_or, inl, inr, lit<, refl, ap, sym, subst, ◌∙◌, arith, rules}
use Rattle.std.specs.Prelude.{cond, decimal}
use Rattle.std.specs.Char.{is_ascii_digit}
use Rattle.std.specs.Str.{all_ascii_digits}
use Rattle.iv_types.specs.Tokens.{value_onto, value_of}
use Rattle.iv_meaning.specs.Number.{digits_at_front, BeginsWithNoDigit}
use Rattle.std.proofs.lemmas.List.{take_at, get_or-take, get_or_append_left, take-append-drop}
use Rattle.std.proofs.lemmas.List.Prefix.{front_rest}
use Rattle.std.proofs.lemmas.List.Folds.{prefix_len-append, length-prefix_len}
use Rattle.std.proofs.lemmas.Bool.{eq-eqb, and_parts, and_from, cases_eq}
use Rattle.std.proofs.lemmas.Str.Parse.{IsNumeralModel, numerals_by_fold}
use Rattle.std.proofs.lemmas.Fmt.{digits_decimal, digits_value-decimal, decimal_injective, decimal_nonempty, first_decimal, decimal_digit, decimal-digits_value}

pub own : IsNumeralModel (λ ds. all_ascii_digits ds ≡ true) value_of
own = numerals_by_fold _ (search rules) value_onto (search rules)

all_front : (ds : List ℕ) → all_ascii_digits ds ≡ true → digits_at_front ds ≡ length ds
all_front [] h = refl
all_front (c ∷ cs) h =
    let both = and_parts (is_ascii_digit c) (all_ascii_digits cs) h in
    let rest = all_front cs both.1 in
    ap (λ (b : Bool). cond b (1 + digits_at_front cs) 0) both.0 ∙ omega arith

pub front-digits : (ds rest : List ℕ) → all_ascii_digits ds ≡ true → digits_at_front rest ≡ 0 → digits_at_front (ds ++ rest) ≡ length ds
front-digits ds rest h none =
    prefix_len-append is_ascii_digit ds rest
    ∙ ap (λ (b : Bool). cond b (length ds + digits_at_front rest) (digits_at_front ds)) (eq-eqb (digits_at_front ds) (length ds) (all_front ds h))
    ∙ omega arith

pub front-decimal : (n : ℕ) (rest : List ℕ) → n < 2 ^ 64 → digits_at_front rest ≡ 0 → digits_at_front (decimal n ++ rest) ≡ length (decimal n)
front-decimal n rest small none = front-digits (decimal n) rest (digits_decimal own n small) none

front_of : (xs rest : List ℕ) → take (length xs) (xs ++ rest) ≡ xs
front_of xs rest = take_at _ _ _ refl

-- a text begins with one number at the most
pub one_decimal : (m n : ℕ) (r s : List ℕ) → m < 2 ^ 64 → n < 2 ^ 64 → digits_at_front r ≡ 0 → digits_at_front s ≡ 0 → decimal m ++ r ≡ decimal n ++ s → (m ≡ n) × (r ≡ s)
one_decimal m n r s hm hn nr ns e =
    let size : length (decimal m) ≡ length (decimal n) = sym (front-decimal m r hm nr) ∙ ap digits_at_front e ∙ front-decimal n s hn ns in
    let same : decimal m ≡ decimal n = sym (front_of (decimal m) r) ∙ ap (take (length (decimal m))) e ∙ ap (λ (k : ℕ). take k (decimal n ++ s)) size ∙ front_of (decimal n) s in (
      decimal_injective m n hm hn same,
      sym (front_rest (decimal m ++ r) (decimal m) r refl) ∙ ap (drop (length (decimal m))) e ∙ ap (λ (k : ℕ). drop k (decimal n ++ s)) size ∙ front_rest (decimal n ++ s) (decimal n) s refl,
    )

one_more : (k : ℕ) → 1 + k ≡ suc k
one_more k = omega arith

digit_first : (c : ℕ) (text : List ℕ) (t : Bool) → is_ascii_digit c ≡ t → all_ascii_digits (take (digits_at_front text) text) ≡ true → all_ascii_digits (take (cond t (1 + digits_at_front text) 0) (c ∷ text)) ≡ true
digit_first c text true e h = ap (λ (n : ℕ). all_ascii_digits (take n (c ∷ text))) (one_more (digits_at_front text)) ∙ and_from (is_ascii_digit c) (all_ascii_digits (take (digits_at_front text) text)) e h
digit_first c text false e h = refl

digits_front : (text : List ℕ) → all_ascii_digits (take (digits_at_front text) text) ≡ true
digits_front [] = refl
digits_front (c ∷ text) = digit_first c text (is_ascii_digit c) refl (digits_front text)

rest_first : (c : ℕ) (text : List ℕ) (t : Bool) → is_ascii_digit c ≡ t → digits_at_front (drop (digits_at_front text) text) ≡ 0 → digits_at_front (drop (cond t (1 + digits_at_front text) 0) (c ∷ text)) ≡ 0
rest_first c text true e h = ap (λ (n : ℕ). digits_at_front (drop n (c ∷ text))) (one_more (digits_at_front text)) ∙ h
rest_first c text false e h = ap (λ (b : Bool). cond b (1 + digits_at_front text) 0) e

rest_front : (text : List ℕ) → digits_at_front (drop (digits_at_front text) text) ≡ 0
rest_front [] = refl
rest_front (c ∷ text) = rest_first c text (is_ascii_digit c) refl (rest_front text)

-- what is read as a number: digits that write its value, without leading zeros
pub record ReadsAs (text : List ℕ) (value : ℕ) : Type 0 where
  pub some : 0 < digits_at_front text
  pub leading : get_or text 0 0 ≡ 48 → digits_at_front text ≡ 1
  pub value_is : value ≡ value_of (take (digits_at_front text) text)

-- such a text is the number's text, and a rest
pub number_read : (text : List ℕ) (value : ℕ) → value < 2 ^ 64 → ReadsAs text value → (text ≡ decimal value ++ drop (digits_at_front text) text) × BeginsWithNoDigit (drop (digits_at_front text) text)
number_read text value small h =
    let k : ℕ = digits_at_front text in
    let size : length (take k text) ≡ k = length-prefix_len is_ascii_digit text in
    let first : get_or (take k text) 0 0 ≡ get_or text 0 0 = get_or-take k text 0 0 h.some in
    let value_small : value_of (take k text) < 2 ^ 64 = subst (λ (n : ℕ). n < 2 ^ 64) h.value_is small in
    let digits : decimal (value_of (take k text)) ≡ take k text = decimal-digits_value own (take k text) (digits_front text) (omega (arith, h.some)) (λ e. size ∙ h.leading (sym first ∙ e)) value_small in
    (sym (take-append-drop k text) ∙ ap (λ (xs : List ℕ). xs ++ drop k text) (sym digits ∙ ap decimal (sym h.value_is)), rest_front text)

zero_alone : (n : ℕ) → n < 2 ^ 64 → get_or (decimal n) 0 0 ≡ 48 → length (decimal n) ≡ 1
zero_alone n small e = elim (cases_eq n 0) [
  | inl z ↦ ap (λ (m : ℕ). length (decimal m)) z ∙ ap length (decimal_digit 0 (lit< tt))
  | inr nz ↦ absurd (let f = first_decimal n (grind (arith, nz)) small in omega arith)
]

-- and a number's text, with a rest behind it, is read so
pub number_written : (n : ℕ) (rest text : List ℕ) → n < 2 ^ 64 → BeginsWithNoDigit rest → text ≡ decimal n ++ rest → ReadsAs text n × (drop (digits_at_front text) text ≡ rest)
number_written n rest text small none e =
    let size : digits_at_front text ≡ length (decimal n) = ap digits_at_front e ∙ front-decimal n rest small none in
    let some : 0 < length (decimal n) = decimal_nonempty n small in
    let front : take (digits_at_front text) text ≡ decimal n = ap (λ (k : ℕ). take k text) size ∙ ap (take (length (decimal n))) e ∙ front_of (decimal n) rest in
    let first : get_or text 0 0 ≡ get_or (decimal n) 0 0 = ap (λ (xs : List ℕ). get_or xs 0 0) e ∙ get_or_append_left (decimal n) rest 0 0 some in (
      record {
        some = omega arith;
        leading = λ z. size ∙ zero_alone n small (sym first ∙ z);
        value_is = sym (ap value_of front ∙ digits_value-decimal own n small);
      },
      ap (λ (k : ℕ). drop k text) size ∙ front_rest text (decimal n) rest e,
    )
