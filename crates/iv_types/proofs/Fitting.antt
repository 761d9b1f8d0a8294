-- What the tests of numbers, values and keys tell.
use Rattle.std.specs.Prelude.{◌≡◌, ◌≢◌, ℕ, ◌-◌, ◌^◌, ◌<◌, ◌≤◌, ◌&&◌, nat_le, not, ℤ, pos, negsuc, Bool, true, false, List, length, IfSome, Option, Some, None}
use Rattle.std.specs.Option.{option_map_or}
use mathlib.Core.Path.{refl, ap}
use Rattle.std.proofs.Common.{arith, leb-true, le-leb}
use Rattle.std.proofs.lemmas.Str.{IsUtf8-from_is_utf8, is_utf8-from_IsUtf8}
use Rattle.std.specs.Int.{w64}
use Rattle.std.specs.Int.RustNames.{FitsSigned}
use Rattle.std.specs.Str.{IsUtf8, is_utf8}
use Rattle.std.specs.declared.cmp.Ordering.{Ordering}
use Rattle.std.specs.declared.cmp.Ordering.TheVariants.{Less, Equal, Greater}
use Rattle.std.specs.Ordering.{nat_cmp, is_gt, is_lt}
use Rattle.std.specs.Cmp.Lexicographic.{slice_cmp}
use Rattle.iv_types.specs.declared.value.Kind.TheVariants.{Int, Text}
use Rattle.iv_types.specs.declared.value.Value.TheVariants.{Number, Word}
use Rattle.iv_types.specs.declared.value.Interval.{Interval}
use Rattle.iv_types.specs.Encoding.{IsHuge, is_huge, Fits, longest_text}
use Rattle.iv_types.specs.Intervals.{IsBelow, IsAtMost, LiesIn}

pub first_true : (a b : Bool) → a && b ≡ true → a ≡ true
first_true true b h = refl
first_true false b h = absurd (cc)

pub second_true : (a b : Bool) → a && b ≡ true → b ≡ true
second_true true b h = h
second_true false b h = absurd (cc)

pub both_true : (a b : Bool) → a ≡ true → b ≡ true → a && b ≡ true
both_true true b h k = k
both_true false b h k = absurd (cc)

-- ---- numbers

huge_pos : (n : ℕ) → nat_le n (2 ^ 127 - 1) ≡ true → IsHuge (pos n)
huge_pos n e = let le : n ≤ 2 ^ 127 - 1 = leb-true n (2 ^ 127 - 1) e in (record { sfits = omega arith }, λ f. absurd (cc))

huge_neg : (n : ℕ) → nat_le n (2 ^ 127 - 2) ≡ true → IsHuge (negsuc n)
huge_neg n e =
    let le : n ≤ 2 ^ 127 - 2 = leb-true n (2 ^ 127 - 2) e in
    (record { sfits = omega arith }, λ f. let g : n ≡ 2 ^ 127 - 1 = cc in omega (arith, g))

pub huge_is : (n : ℤ) → is_huge n ≡ true → IsHuge n
huge_is (pos n) e = huge_pos n e
huge_is (negsuc n) e = huge_neg n (first_true (nat_le n (2 ^ 127 - 2)) true e)

pub huge_so : (n : ℤ) → IsHuge n → is_huge n ≡ true
huge_so (pos n) f = let lt : n < 2 ^ 127 = f.0.sfits in le-leb n (2 ^ 127 - 1) (omega (arith, lt))
huge_so (negsuc n) f =
    let lt : n < 2 ^ 127 = omega (arith, f.0.sfits) in
    let differ : n ≢ 2 ^ 127 - 1 = λ e. f.1 (ap negsuc e) in
    both_true (nat_le n (2 ^ 127 - 2)) true (le-leb n (2 ^ 127 - 2) (omega (arith, lt, differ))) refl

pub int_is : (n : ℤ) → Fits Int (Number n) → FitsSigned w64 n
int_is (pos n) e = let le : n ≤ 2 ^ 63 - 1 = leb-true n (2 ^ 63 - 1) e in record { sfits = omega arith }
int_is (negsuc n) e = let le : n ≤ 2 ^ 63 - 1 = leb-true n (2 ^ 63 - 1) (first_true (nat_le n (2 ^ 63 - 1)) true e) in record { sfits = omega arith }

pub int_so : (n : ℤ) → FitsSigned w64 n → Fits Int (Number n)
int_so (pos n) h = let f = h.sfits in le-leb n (2 ^ 63 - 1) (omega (arith, f))
int_so (negsuc n) h = let f = h.sfits in both_true (nat_le n (2 ^ 63 - 1)) true (le-leb n (2 ^ 63 - 1) (omega (arith, f))) refl

-- ---- texts

pub text_is : (w : List ℕ) → Fits Text (Word w) → (length w ≤ longest_text) × IsUtf8 w
text_is w e = (leb-true (length w) longest_text (first_true (nat_le (length w) longest_text) (is_utf8 w) e), IsUtf8-from_is_utf8 w (second_true (nat_le (length w) longest_text) (is_utf8 w) e))

pub text_so : (w : List ℕ) → length w ≤ longest_text → IsUtf8 w → Fits Text (Word w)
text_so w le utf8 = both_true (nat_le (length w) longest_text) (is_utf8 w) (le-leb (length w) longest_text le) (is_utf8-from_IsUtf8 w utf8)

-- ---- keys in intervals

not_greater : (o : Ordering) → not (is_gt o) ≡ true → o ≢ Greater
not_greater Less h e = absurd (cc)
not_greater Equal h e = absurd (cc)
not_greater Greater h e = absurd (cc)

not_greater_so : (o : Ordering) → o ≢ Greater → not (is_gt o) ≡ true
not_greater_so Less n = refl
not_greater_so Equal n = refl
not_greater_so Greater n = absurd (n refl)

less_is : (o : Ordering) → is_lt o ≡ true → o ≡ Less
less_is Less h = refl
less_is Equal h = absurd (cc)
less_is Greater h = absurd (cc)

less_so : (o : Ordering) → o ≡ Less → is_lt o ≡ true
less_so o e = ap is_lt e

below_is : (key : List ℕ) (high : Option (List ℕ)) → option_map_or (λ end. is_lt (slice_cmp nat_cmp key end)) high true ≡ true → IfSome high (λ end. IsBelow key end)
below_is key None h = tt
below_is key (Some end) h = less_is (slice_cmp nat_cmp key end) h

below_so : (key : List ℕ) (high : Option (List ℕ)) → IfSome high (λ end. IsBelow key end) → option_map_or (λ end. is_lt (slice_cmp nat_cmp key end)) high true ≡ true
below_so key None h = refl
below_so key (Some end) h = less_so (slice_cmp nat_cmp key end) h

pub lies_is : (key : List ℕ) (interval : Interval) → LiesIn key interval → IsAtMost interval.low key × IfSome interval.high (λ high. IsBelow key high)
lies_is key interval h =
    let low : Bool = not (is_gt (slice_cmp nat_cmp interval.low key)) in
    let high : Bool = option_map_or (λ end. is_lt (slice_cmp nat_cmp key end)) interval.high true in
    (not_greater (slice_cmp nat_cmp interval.low key) (first_true low high h), below_is key interval.high (second_true low high h))

pub lies_so : (key : List ℕ) (interval : Interval) → IsAtMost interval.low key → IfSome interval.high (λ high. IsBelow key high) → LiesIn key interval
lies_so key interval low high =
    both_true (not (is_gt (slice_cmp nat_cmp interval.low key))) (option_map_or (λ end. is_lt (slice_cmp nat_cmp key end)) interval.high true)
    (not_greater_so (slice_cmp nat_cmp interval.low key) low) (below_so key interval.high high)
