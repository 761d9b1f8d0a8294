use Rattle.std.proofs.Common.{◌≡◌, ◌≤◌, ◌<◌, ◌^◌, ◌∙◌, ℕ, List, ◌++◌, take, drop, get_or, ap, sym, subst, arith, refl}
use Rattle.std.specs.Prelude.{decimal}
use Rattle.std.proofs.lemmas.List.{take_rest}
use Rattle.std.proofs.lemmas.Bool.{false≢true}
use Rattle.iv_types.specs.Tokens.{value_of}
use Rattle.iv_meaning.specs.Number.{digits_at_front, BeginsWithNoDigit}
use Rattle.iv_meaning.proofs.NumberLemmas.{ReadsAs, number_read, number_written}
use Rattle.line_requests.proofs.Digits.{some_value, none_value}
use Rattle.line_requests.proofs.numbers.natural.Goals as goal

-- a number's text begins with digits that write it
written : (text rest : List ℕ) (most n : ℕ) → most ≤ 2 ^ 63 → n ≤ most → BeginsWithNoDigit rest → text ≡ decimal n ++ rest → ReadsAs text n × (drop (digits_at_front text) text ≡ rest)
written text rest most n small le none e = number_written n rest text (omega arith) none e

starts : (text : List ℕ) (count n : ℕ) → count ≡ digits_at_front text → ReadsAs text n → (0 < count) × (get_or text 0 0 ≡ 48 → count ≡ 1)
starts text count n e h = (omega (arith, h.some), λ z. e ∙ h.leading z)

read : (text : List ℕ) (count most value : ℕ) → count ≡ digits_at_front text → most ≤ 2 ^ 63 → (0 < count) × (get_or text 0 0 ≡ 48 → count ≡ 1) → (value ≡ value_of (take count text)) × (value ≤ most) → (text ≡ decimal value ++ drop count text) × BeginsWithNoDigit (drop count text)
read text count most value e small starts v =
    let reads : ReadsAs text value = record { some = omega (arith, starts.0); leading = λ z. sym e ∙ starts.1 z; value_is = v.0 ∙ ap (λ (k : ℕ). value_of (take k text)) e } in
    subst (λ (k : ℕ). (text ≡ decimal value ++ drop k text) × BeginsWithNoDigit (drop k text)) (sym e) (number_read text value (omega (arith, v.1)) reads)

pub returns-then-not-is_number-clause-complete : goal.returns-then-not-is_number-clause-complete
returns-then-not-is_number-clause-complete c = λ n rest le none e.
    let h = written c.args.text.now rest c.args.most n c.requires le none e in
    false≢true (c.if-not-is_number.ensures.1 (starts c.args.text.now c.digit_count-count.result n c.digit_count-count.ensures.count h.0))

pub returns-in-Some-clause-sound : goal.returns-in-Some-clause-sound
returns-in-Some-clause-sound c =
    let v = some_value _ _ _ c.in-Some.ensures in
    let r = read c.args.text.now c.digit_count-count.result c.args.most c.in-Some.value c.digit_count-count.ensures.count c.requires (c.if-not-is_number.ensures.0 refl) v in
    rw take_rest (r.0, v.1, r.1)

pub returns-in-Some-clause-complete : goal.returns-in-Some-clause-complete
returns-in-Some-clause-complete c = λ n rest le none e.
    let v = some_value _ _ _ c.in-Some.ensures in
    let h = written c.args.text.now rest c.args.most n c.requires le none e in
    let count = c.digit_count-count.ensures.count in
    rw take_rest (v.0 ∙ ap (λ (k : ℕ). value_of (take k c.args.text.now)) count ∙ sym h.0.value_is, ap (λ (k : ℕ). drop k c.args.text.now) count ∙ h.1)

pub returns-in-None-clause-complete : goal.returns-in-None-clause-complete
returns-in-None-clause-complete c = λ n rest le none e.
    let past = none_value _ _ c.in-None.ensures in
    let h = written c.args.text.now rest c.args.most n c.requires le none e in
    let same = h.0.value_is ∙ ap (λ (k : ℕ). value_of (take k c.args.text.now)) (sym c.digit_count-count.ensures.count) in
    omega (arith, past, same, le)
