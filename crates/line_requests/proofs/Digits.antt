-- Steps along the digits of a number.
use Rattle.std.proofs.Common.{◌≡◌, ◌≤◌, ◌<◌, ◌+◌, ◌*◌, ◌-◌, ℕ, Bool, false, true, cond, refl, Option, Some, None, List, [], ◌∷◌, length, get_or, drop, ap, ◌∙◌, arith, add-one, drop-cons}
use Rattle.std.specs.Prelude.{nat_le, if◌then◌else◌}
use Rattle.std.specs.Char.{is_ascii_digit}
use Rattle.std.proofs.lemmas.Bool.Decides.{nat_tests}
use Rattle.iv_types.specs.Tokens.{value_onto}
use Rattle.iv_meaning.specs.Number.{digits_at_front}

pub next_is : (xs : List ℕ) (i : ℕ) → i < length xs → drop i xs ≡ get_or xs i 0 ∷ drop (i + 1) xs
next_is xs i h = rw add-one (drop-cons xs i 0 h)

yes : (b n : ℕ) → 48 ≤ b → b ≤ 57 → cond (is_ascii_digit b) (1 + n) 0 ≡ 1 + n
yes b n low high = grind (arith, nat_tests)

pub digit_yes : (xs : List ℕ) (i b : ℕ) → i < length xs → b ≡ get_or xs i 0 → 48 ≤ b → b ≤ 57 → digits_at_front (drop i xs) ≡ 1 + digits_at_front (drop (i + 1) xs)
digit_yes xs i b h e low high = ap digits_at_front (next_is xs i h) ∙ yes (get_or xs i 0) (digits_at_front (drop (i + 1) xs)) (rw (← e) low) (rw (← e) high)

no : (b n : ℕ) → (is_ascii_digit b ≡ false) → cond (is_ascii_digit b) (1 + n) 0 ≡ 0
no b n e = rw e

pub digit_no : (xs : List ℕ) (i b : ℕ) → i < length xs → b ≡ get_or xs i 0 → is_ascii_digit b ≡ false → digits_at_front (drop i xs) ≡ 0
digit_no xs i b h e other = ap digits_at_front (next_is xs i h) ∙ no (get_or xs i 0) (digits_at_front (drop (i + 1) xs)) (rw (← e) other)

pub value_more : (xs : List ℕ) (i n : ℕ) → i < length xs → value_onto n (drop i xs) ≡ value_onto (n * 10 + (get_or xs i 0 - 48)) (drop (i + 1) xs)
value_more xs i n h = ap (value_onto n) (next_is xs i h)

pub value_grows : (n : ℕ) (ds : List ℕ) → n ≤ value_onto n ds
value_grows n [] = omega arith
value_grows n (d ∷ ds) = omega (arith, value_grows (n * 10 + (d - 48)) ds)

by_bound : (b : Bool) (V most : ℕ) → nat_le V most ≡ b → (v : ℕ) → ◌≡◌ {A = Option ℕ} (Some v) (cond b (Some V) None) → (v ≡ V) × (v ≤ most)
by_bound true V most e v h = let same : v ≡ V = cc in (same, grind (arith, nat_tests))
by_bound false V most e v h = cc

pub some_value : (V most v : ℕ) → ◌≡◌ {A = Option ℕ} (Some v) (if nat_le V most then Some V else None) → (v ≡ V) × (v ≤ most)
some_value V most v h = by_bound (nat_le V most) V most refl v h

past_bound : (b : Bool) (V most : ℕ) → nat_le V most ≡ b → ◌≡◌ {A = Option ℕ} None (cond b (Some V) None) → most < V
past_bound true V most e h = cc
past_bound false V most e h = grind (arith, nat_tests)

pub none_value : (V most : ℕ) → ◌≡◌ {A = Option ℕ} None (if nat_le V most then Some V else None) → most < V
none_value V most h = past_bound (nat_le V most) V most refl h
