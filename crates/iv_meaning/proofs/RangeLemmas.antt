-- Values of columns in the HUGE range, which an expression sees as they are.
use Rattle.std.specs.Prelude.{◌≡◌, ◌-◌, ◌^◌, ◌&&◌, not, cond, ℤ, pos, negsuc, Bool, true, false, Option, Some, None}
use mathlib.Core.Path.{refl, sym, ap, ◌∙◌}
use Rattle.std.proofs.Common.{arith, le-leb}
use Rattle.std.proofs.lemmas.Option.{none-some}
use Rattle.std.specs.Option.{unwrap_or}
use Rattle.std.specs.Int.{w64}
use Rattle.std.specs.Int.RustNames.{FitsSigned}
use Rattle.iv_types.specs.declared.value.Kind.{Kind}
use Rattle.iv_types.specs.declared.value.Kind.TheVariants.{Int, Huge, Text}
use Rattle.iv_types.specs.declared.value.Value.{Value}
use Rattle.iv_types.specs.declared.value.Value.TheVariants.{Number, Word}
use Rattle.iv_types.specs.Encoding.{Fits, is_huge}
use Rattle.iv_types.proofs.Fitting.{int_is}
use Rattle.iv_meaning.specs.Values.{Outcome, number, word, refused, ranged, outcome_of, value_of, lies_outside}

-- ---- values that fit

int_huge : (n : ℤ) → FitsSigned w64 n → is_huge n ≡ true
int_huge (pos n) h = let f = h.sfits in le-leb n (2 ^ 127 - 1) (omega (arith, f))
int_huge (negsuc n) h = let f = h.sfits in ap (λ b. b && true) (le-leb n (2 ^ 127 - 2) (omega (arith, f)))

-- the value as an expression sees it where it lies in the range
abbrev pub seen : Value → Outcome
seen (Number n) = number n
seen (Word w) = word w

pub seen_is : (k : Kind) (v : Value) → Fits k v → outcome_of (Some v) ≡ seen v
seen_is Int (Number n) f = ap (λ b. cond b (number n) refused) (int_huge n (int_is n f))
seen_is Huge (Number n) f = ap (λ b. cond b (number n) refused) f
seen_is Text (Word w) f = refl
seen_is Int (Word w) f = absurd (cc)
seen_is Huge (Word w) f = absurd (cc)
seen_is Text (Number n) f = absurd (cc)

pub value_seen : (k : Kind) (v : Value) → Fits k v → value_of (outcome_of (Some v)) ≡ Some v
value_seen k v f = ap value_of (seen_is k v f) ∙ again v
  where
    again : (w : Value) → value_of (seen w) ≡ Some w
    again (Number n) = refl
    again (Word b) = refl

pub none_outside : (k : Kind) (v : Value) → Fits k v → lies_outside v ≡ false
none_outside Int (Number n) f = ap not (int_huge n (int_is n f))
none_outside Huge (Number n) f = ap not f
none_outside Text (Word w) f = refl
none_outside Int (Word w) f = absurd (cc)
none_outside Huge (Word w) f = absurd (cc)
none_outside Text (Number n) f = absurd (cc)

-- ---- values that were seen

same_value : (x y : Value) → Some x ≡ Some y → x ≡ y
same_value x y e = ap (λ o. unwrap_or o x) e

pub ranged_is : (n : ℤ) (y : Value) → value_of (ranged n) ≡ Some y → y ≡ Number n
ranged_is n y e = go (is_huge n) e
  where
    go : (b : Bool) → value_of (cond b (number n) refused) ≡ Some y → y ≡ Number n
    go true e = sym (same_value (Number n) y e)
    go false e = absurd (none-some y e)

pub value_back : (o : Option Value) (y : Value) → value_of (outcome_of o) ≡ Some y → o ≡ Some y
value_back None y e = e
value_back (Some (Number n)) y e = ap Some (sym (ranged_is n y e))
value_back (Some (Word w)) y e = e
