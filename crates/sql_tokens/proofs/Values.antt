-- Numbers, digit by digit.
use Rattle.std.proofs.Common.{◌≡◌, ℕ, ◌+◌, ◌-◌, ◌*◌, ◌<◌, ◌≤◌, List, [], ◌∷◌, length, drop, get_or, Option, Some, None, IsSome, ap, arith}
use Rattle.std.proofs.lemmas.List.{drop_more}
use Rattle.iv_types.specs.Tokens.{value_onto}

pub value_more : (n : ℕ) (digits : List ℕ) (i : ℕ) → i < length digits → value_onto n (drop i digits) ≡ value_onto (n * 10 + (get_or digits i 0 - 48)) (drop (i + 1) digits)
value_more n digits i lt = ap (value_onto n) (drop_more digits i 0 lt)

-- more digits make no smaller number
pub value-least : (n : ℕ) (digits : List ℕ) → n ≤ value_onto n digits
value-least n [] = omega arith
value-least n (d ∷ digits) = omega (arith, value-least (n * 10 + (d - 48)) digits)

pub not_some : (o : Option ℕ) → o ≡ None → IsSome o → ⊥
not_some None e some = cc
not_some (Some x) e some = cc
