-- Numbers to which half of what their bytes can count is added.
use Rattle.std.proofs.Common.{◌≡◌, ◌≢◌, ℕ, ℤ, pos, suc, ◌+◌, ◌-◌, ◌%◌, ◌^◌, ◌<◌, ◌≤◌, ◌+ℤ◌, List, ◌++◌, length, take, drop, refl, sym, ap, subst, ◌∙◌, arith, inl, inr}
use lib.IntN.{negsuc}
use borrow.Author.Gap.{read_sfits}
use lib.Signed.{mag}
use Rattle.std.proofs.lemmas.Bool.{cases_lt}
use Rattle.std.proofs.lemmas.Int.{ints, to_z_pos}
use Rattle.std.proofs.Math.Facts.{to_z-neg}
use Rattle.std.specs.Int.{Width, w128, bytes_high_first, cast_signed, cast_unsigned}
use Rattle.std.specs.Int.RustNames.{FitsSigned}
use Rattle.std.proofs.Math.Nat.{mod-eq_of_lt}
use Rattle.iv_types.specs.Encoding.{IsHuge}
use Rattle.byteorder.specs.Endian.{big_number}
use Rattle.byteorder.specs.Numbers.{big_from-lt}
use Rattle.iv_types.proofs.ByteNumbers.{IsBytes}
use Rattle.row_codec.proofs.Numbers.{number_split, number_front}

-- the sum is a number from 0 on
pub shift : (h : ℕ) (z : ℤ) → mag z < h → (x : ℕ) × (z +ℤ pos h ≡ pos x) × (x < h + h)
shift h (pos n) lt = (n + h, refl, omega arith)
shift h (negsuc m) lt = (h - suc m, omega (arith, ints), omega arith)

shift_same : (h : ℕ) (a b : ℤ) (x : ℕ) → a +ℤ pos h ≡ pos x → b +ℤ pos h ≡ pos x → a ≡ b
shift_same h a b x e f = omega (arith, ints)

pub shifted_split : (w : Width) (n h : ℕ) → h + h ≡ 256 ^ n → (a b : ℤ) (r s : List ℕ) → mag a < h → mag b < h
    → bytes_high_first n (cast_unsigned w (a +ℤ pos h)) ++ r ≡ bytes_high_first n (cast_unsigned w (b +ℤ pos h)) ++ s → (a ≡ b) × (r ≡ s)
shifted_split w n h size a b r s la lb e =
    let x = shift h a la in
    let y = shift h b lb in
    let text : bytes_high_first n x.0 ++ r ≡ bytes_high_first n y.0 ++ s =
    ap (λ (z : ℤ). bytes_high_first n (cast_unsigned w z) ++ r) (sym x.1) ∙ e ∙ ap (λ (z : ℤ). bytes_high_first n (cast_unsigned w z) ++ s) y.1 in
    let p = number_split n x.0 y.0 r s (subst (λ (k : ℕ). x.0 < k) size x.2) (subst (λ (k : ℕ). y.0 < k) size y.2) text in
    (shift_same h a b y.0 (x.1 ∙ ap pos p.0) y.1, p.1)

-- what adding the half gives, where it wraps
pub huge_shifted : (z : ℤ) → FitsSigned w128 z → (cast_unsigned w128 z + 2 ^ 127) % 2 ^ 128 ≡ cast_unsigned w128 (z +ℤ pos (2 ^ 127))
huge_shifted (pos n) f = let lt : n < 2 ^ 127 = f.sfits in mod-eq_of_lt (omega arith)
huge_shifted (negsuc m) f =
    let lt : m < 2 ^ 127 = f.sfits in
    let sum : negsuc m +ℤ pos (2 ^ 127) ≡ pos (2 ^ 127 - suc m) = omega (arith, ints) in
    let wrapped : (2 ^ 128 - suc m + 2 ^ 127) % 2 ^ 128 ≡ 2 ^ 127 - suc m = omega arith in
    wrapped ∙ sym (ap (cast_unsigned w128) sum)

-- what taking it away gives, where it wraps
huge_back : (x : ℕ) (z : ℤ) → x < 2 ^ 128 → z ≡ cast_signed w128 ((x + (2 ^ 128 - 2 ^ 127)) % 2 ^ 128) → z +ℤ pos (2 ^ 127) ≡ pos x
huge_back x z lt is = elim (cases_lt x (2 ^ 127)) [
  | inl small ↦
      let k = 2 ^ 127 - suc x in
      let wrapped : (x + (2 ^ 128 - 2 ^ 127)) % 2 ^ 128 ≡ 2 ^ 128 - suc k = omega arith in
      let e : z ≡ negsuc k = is ∙ ap (cast_signed w128) wrapped ∙ to_z-neg w128 k (omega arith) in
      omega (arith, ints, e)
  | inr large ↦
      let k = x - 2 ^ 127 in
      let wrapped : (x + (2 ^ 128 - 2 ^ 127)) % 2 ^ 128 ≡ k = omega arith in
      let e : z ≡ pos k = is ∙ ap (cast_signed w128) wrapped ∙ to_z_pos w128 k (omega arith) in
      omega (arith, ints, e)
]

-- bytes begin with those of the number that is read from them
pub huge_front : (bytes : List ℕ) (x : ℕ) (z : ℤ) → IsBytes bytes → 16 ≤ length bytes → x ≡ big_number 16 bytes → x ≢ 0 → z ≡ cast_signed w128 ((x + (2 ^ 128 - 2 ^ 127)) % 2 ^ 128)
    → IsHuge z × (bytes ≡ bytes_high_first 16 (cast_unsigned w128 (z +ℤ pos (2 ^ 127))) ++ take (length bytes - 16) (drop 16 bytes))
huge_front bytes x z h long read some is =
    let lt : x < 2 ^ 128 = subst (λ (k : ℕ). k < 2 ^ 128) (sym read) (big_from-lt 0 16 bytes h) in
    let sum = huge_back x z lt is in
    let same : cast_unsigned w128 (z +ℤ pos (2 ^ 127)) ≡ x = ap (cast_unsigned w128) sum in (
      (subst (FitsSigned w128) (sym is) (read_sfits w128 ((x + (2 ^ 128 - 2 ^ 127)) % 2 ^ 128)), λ least. some (omega (arith, ints, least, sum))),
      number_front 16 bytes (cast_unsigned w128 (z +ℤ pos (2 ^ 127))) h long (same ∙ read),
    )
